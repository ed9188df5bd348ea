use Rattle.std.proofs.Common.{◌∙◌, length, vec_capacity, refl, ap, arith}
use Rattle.sq_graph.specs.declared.graph.Graph.TheInside.{Inside}
use Rattle.sq_graph.proofs.Strewn.{laid_copied}
use Rattle.sq_graph.proofs.Held.{kept, limits_of}
use Rattle.sq_graph.proofs.graph.Graph.copy.Goals as goal

pub invariant_of-result : goal.invariant_of-result
invariant_of-result c =
    let old = c.self.invariant in
    let limits = limits_of c.self.inside c.self.invariant in
    let items = c.in_ok-copy.ensures.items ∙ c.deref.ensures.value in
    let bodies = c.in_ok-copy-4.ensures.items ∙ c.deref-3.ensures.value in
    let spare = ap (λ slots. slots.spare) c.in-Ok.ensures in
    let new : Inside = record {
      slots = c.in-Ok.slots;
      items = c.in_ok-copy.field-0;
      blocks_end = c.self.inside.blocks_end;
      gaps = c.self.inside.gaps;
      loose = c.in_ok-copy-2.field-0;
      entry = c.self.inside.entry;
      code_words = c.in_ok-copy-3.field-0;
      bodies = c.in_ok-copy-4.field-0;
      item_room = c.self.inside.item_room;
      body_room = c.self.inside.body_room;
    } in
    (kept c.self.inside new old
    (record {
      slots = ap (λ slots. slots.entries) c.in-Ok.ensures;
      items = items;
      blocks_end = refl;
      gaps = refl;
      lie = rw (ap (λ slots. slots.entries) c.in-Ok.ensures) (laid_copied c.self.inside.slots.entries c.self.inside.blocks_end (vec_capacity c.self.inside.loose.scratch) (vec_capacity c.in_ok-copy-2.field-0.scratch) c.self.inside.loose.free c.in_ok-copy-2.field-0.free c.in_ok-copy-2.ensures.free old.gaps.lie
          (λ some. omega (arith, c.in_ok-copy-2.ensures.room some, old.gaps.counted)));
      entry = refl;
      code_words = c.in_ok-copy-3.ensures.items ∙ c.deref-2.ensures.value;
      bodies = bodies;
    })
    (record {
      items = omega (arith, ap (λ is. length is) items, old.room.items);
      item_room = c.in_ok-copy.ensures.room;
      bodies = omega (arith, ap (λ bs. length bs) bodies, old.room.bodies);
      body_room = c.in_ok-copy-4.ensures.room;
    })
    (record {
      blocks = omega (arith, spare, ap (λ es. length es) (ap (λ slots. slots.entries) c.in-Ok.ensures), limits.blocks);
      item_room = limits.item_room;
      body_room = limits.body_room;
    })).sound
