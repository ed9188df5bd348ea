use Rattle.std.proofs.Common.{◌≡◌, ◌+◌, ◌++◌, length, ap, ◌∙◌, arith}
use Rattle.sq_system.specs.Starts.{start_of, area_room, argument_area, ram_at_start}
use Rattle.sq_system.proofs.Areas.{ram_laid, length-ram_at_start}
use Rattle.sq_system.proofs.area.ram_at_start.Goals as goal

-- the zeros and the area are RAM at the start
ram : (c : goal.In_ok-push_area) → c.push_area.new.area.items ≡ ram_at_start (start_of c.args.start.now)
ram c =
    let start = start_of c.args.start.now in
    let room = c.unwrap-room.result in
    let known = rw c.unwrap-room.ensures at c.room_left.ensures in
    let spare : room + area_room start ≡ start.size = omega (arith, known.0, known.1) in
    c.in_ok-push_area.ensures ∙ ap (λ front. front ++ argument_area start) (c.in_ok-ram.ensures.items_if_clones_equal (λ y same. same))
    ∙ ram_laid start room c.requires.fits spare

pub returns-clause-length : goal.returns-clause-length
returns-clause-length c = ap length (ram c) ∙ length-ram_at_start (start_of c.args.start.now) c.requires.fits c.requires.room
