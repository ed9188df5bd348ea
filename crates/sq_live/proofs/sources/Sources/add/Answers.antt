use Rattle.std.proofs.Common.{◌≡◌, ◌∙◌, ◌<◌, ◌++◌, ◌∷◌, [], None, Some, ap, sym, subst, length, get_or}
use Rattle.std.proofs.Math.ListN.{set}
use Rattle.std.proofs.lemmas.List.{get_or_default}
use Rattle.sq_live.specs.Sources.{sources_in, AreChained, AddsTo}
use Rattle.sq_live.proofs.Chains.{edge_from, chained_more, adds_edge, length-sources}
use Rattle.sq_live.proofs.sources.Sources.add.Goals as goal

pub returns-clause-chained : goal.returns-clause-chained
returns-clause-chained c =
    let first = c.args.self.now.first.items in
    let edges = c.args.self.now.edges.items in
    let to = c.args.to in
    let within : to < length first = subst (λ n. to < n) (length-sources first edges) c.requires.to in
    let number : c.in-Ok.number ≡ length edges = c.in-Ok.ensures.1 ∙ c.len.ensures ∙ c.args.self.now.edges.ok.0 in
    let next : c.index-next.result.now ≡ get_or first to None = c.index-next.ensures ∙ get_or_default first to c.index-next.result.now None within in
    let pushed : c.push.new.self.items ≡ edges ++ edge_from c.args.from (get_or first to None) ∷ [] = c.in_ok-push.ensures.items ∙ ap (λ o. edges ++ edge_from c.args.from o ∷ []) next in
    subst (λ n. AreChained (set first to (Some n)) c.push.new.self.items) (sym number)
    (subst (λ es. AreChained (set first to (Some (length edges))) es) (sym pushed) (chained_more first edges c.args.from to c.requires.chained within))

pub returns-clause-adds : goal.returns-clause-adds
returns-clause-adds c =
    let first = c.args.self.now.first.items in
    let edges = c.args.self.now.edges.items in
    let to = c.args.to in
    let within : to < length first = subst (λ n. to < n) (length-sources first edges) c.requires.to in
    let number : c.in-Ok.number ≡ length edges = c.in-Ok.ensures.1 ∙ c.len.ensures ∙ c.args.self.now.edges.ok.0 in
    let next : c.index-next.result.now ≡ get_or first to None = c.index-next.ensures ∙ get_or_default first to c.index-next.result.now None within in
    let pushed : c.push.new.self.items ≡ edges ++ edge_from c.args.from (get_or first to None) ∷ [] = c.in_ok-push.ensures.items ∙ ap (λ o. edges ++ edge_from c.args.from o ∷ []) next in
    subst (λ n. AddsTo (sources_in first edges) (sources_in (set first to (Some n)) c.push.new.self.items) c.args.from (to ∷ [])) (sym number)
    (subst (λ es. AddsTo (sources_in first edges) (sources_in (set first to (Some (length edges))) es) c.args.from (to ∷ [])) (sym pushed) (adds_edge first edges c.args.from to c.requires.chained within))
