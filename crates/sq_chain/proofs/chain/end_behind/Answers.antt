use Rattle.std.proofs.Common.{◌≡◌, ℕ, Option, None, Some, refl, ◌∙◌}
use Rattle.std.specs.Option.{unwrap_or}
use Rattle.sq_graph.specs.declared.item.Term.TheVariants.{Jump}
use Rattle.sq_chain.specs.Moves.{chain_end}
use Rattle.sq_chain.proofs.Chains.{target_there, stops_at_end}
use Rattle.sq_chain.proofs.chain.end_behind.Goals as goal

pub end_of_chain-requires-clause-to : goal.end_of_chain-requires-clause-to
end_of_chain-requires-clause-to c = target_there c.args.graph.now.graph c.args.from c.args.to c.learn.ensures.rules c.requires.jump

end_found : (o : Option ℕ) (from end last : ℕ) → last ≡ unwrap_or o from → ((found : ℕ) → o ≡ Some found → found ≡ end) → (o ≡ None → from ≡ end) → last ≡ end
end_found None from end last is some none = is ∙ none refl
end_found (Some found) from end last is some none = is ∙ some found refl

pub returns : goal.returns
returns c =
    let g = c.args.graph.now.graph in
    end_found c.end_of_chain.result c.args.from (chain_end g c.args.to) c.unwrap_or.result c.unwrap_or.ensures c.end_of_chain.ensures.some
    (λ none. stops_at_end g c.args.to (target_there g c.args.from c.args.to c.learn.ensures.rules c.requires.jump) c.args.from (Jump c.args.to) c.learn.ensures.rules c.requires.jump refl (c.end_of_chain.ensures.inside none))
