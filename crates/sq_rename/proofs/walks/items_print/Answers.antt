use Rattle.std.proofs.Common.{◌≡◌, ◌+◌, ◌∷◌, drop, sym, ap, ◌∙◌, arith}
use Rattle.std.proofs.lemmas.List.{drop_more}
use Rattle.sq_isa.specs.Registers.{is_member}
use Rattle.sq_rename.specs.Prints.{met_item, walked}
use Rattle.sq_rename.specs.Walks.{walk_of}
use Rattle.sq_rename.proofs.walks.items_print.Goals as goal

pub overflow_cast-place : goal.overflow_cast-place
overflow_cast-place c = let few = c.requires.few in omega (arith, c.loop-place-test.true)

pub overflow_add-place : goal.overflow_add-place
overflow_add-place c = let few = c.requires.few in omega (arith, c.loop-place-test.true)

pub loop-place-preserved : goal.loop-place-preserved
loop-place-preserved c =
    let place = c.loop-place.place in
    let items = c.args.items.now in
    let keeps = is_member c.args.keeps in
    let old = walk_of c.loop-place.walk in
    let left : drop c.loop-place.place c.args.items.now ≡ c.index-items-place.result ∷ drop (c.loop-place.place + 1) c.args.items.now =
    drop_more items place c.index-items-place.result c.loop-place-test.true ∙ ap (λ x. x ∷ drop (place + 1) items) (sym c.index-items-place.is) in
    let next : (32 + c.loop-place.place) + 1 ≡ 32 + (c.loop-place.place + 1) = omega arith in
    record {
      fits = c.meet_item.ensures.fits;
      left = ap (λ walk. (walked walk keeps (32 + (place + 1)) (drop (place + 1) items)).print) c.meet_item.ensures.value
          ∙ ap (λ other. (walked (met_item old keeps (32 + place) c.index-items-place.result) keeps other (drop (place + 1) items)).print) (sym next)
          ∙ ap (λ items. (walked old keeps (32 + place) items).print) (sym left)
          ∙ c.loop-place.invariant.left;
    }
