use Rattle.std.proofs.Common.{◌≡◌, ◌∙◌, ◌+◌, ◌*◌, ◌&&◌, ℕ, Bool, Some, not, ap, sym, subst, length, arith, rules, SFits, w64}
use Rattle.std.proofs.lemmas.Int.{to_z-of_z}
use Rattle.sq_graph.specs.Blocks.{items_of}
use Rattle.sq_graph.specs.Places.{Reaches}
use Rattle.sq_graph.specs.Words.{term_words, block_words}
use Rattle.sq_chain.specs.Places.{placed_at}
use Rattle.sq_chain.specs.Least.{is_near, is_short, stands_at}
use Rattle.sq_chain.specs.Settled.{swollen_to, is_short_by}
use Rattle.sq_chain.proofs.Adding.{stands_are}
use Rattle.sq_chain.proofs.Placed.{near_test}
use Rattle.sq_chain.proofs.Seen.{term_by, items_by}
use Rattle.sq_chain.proofs.around.is_branch_missed.Goals as goal

pub returns : goal.returns
returns c =
    let g = c.args.graph.now.graph in
    let n = c.args.block.name in
    let branch = c.in-Branch in
    let stand : ℕ → ℕ = swollen_to (stands_at block_words g) c.args.shift c.args.wide in
    let are = stands_are block_words g (placed_at c.args.addresses.now) c.requires.addresses in
    let at : c.swollen_to.result ≡ swollen_to (stands_at block_words g) c.args.shift c.args.wide c.args.block.name = c.swollen_to.ensures.value ∙ ap (λ (f : ℕ → ℕ). swollen_to f c.args.shift c.args.wide c.args.block.name) are in
    let target : c.swollen_to-2.result ≡ swollen_to (stands_at block_words g) c.args.shift c.args.wide c.in-Branch.to = c.swollen_to-2.ensures.value ∙ ap (λ (f : ℕ → ℕ). swollen_to f c.args.shift c.args.wide c.in-Branch.to) are in
    let words = items_by g n c.args.block c.requires.block in
    let items : c.from-items.result ≡ length (items_of g n) = omega (arith, words, c.from-items.ensures, ap term_words branch.is) in
    let fits : SFits w64 c.distance.result = search rules in
    let whole = to_z-of_z w64 c.distance.result fits ∙ c.distance.ensures in
    let test : c.reaches.result ≡ is_near (c.swollen_to.result + 4 * c.from-items.result) c.swollen_to-2.result =
    near_test c.reaches.result (c.swollen_to.result + 4 * c.from-items.result) c.swollen_to-2.result (λ yes. subst Reaches whole (c.reaches.ensures.0 yes)) (λ reach. c.reaches.ensures.1 (subst Reaches (sym whole) reach)) in
    let short : not c.reaches.result ≡ is_short_by c.args.graph.now.graph c.args.shift c.args.wide c.args.block.name =
    ap (λ (t : Bool). not t) test
    ∙ ap (λ k. not (is_near (k + 4 * c.from-items.result) c.swollen_to-2.result)) at
    ∙ ap (λ k. not (is_near (stand n + 4 * k) c.swollen_to-2.result)) items
    ∙ ap (λ k. not (is_near (stand n + 4 * length (items_of g n)) k)) target
    ∙ ap (is_short stand g n) (sym (term_by g n c.args.block c.requires.block ∙ ap Some branch.is)) in
    short ∙ ap (λ (t : Bool). not t && is_short_by g c.args.shift c.args.wide n) (sym (sym c.has.ensures ∙ c.if-has.false))
