-- Places at which items become calls of one procedure.
use Rattle.std.specs.Prelude.{◌≡◌, ℕ, ◌+◌, ◌≤◌, List, [], ◌∷◌, length}
use Rattle.std.specs.List.{All}
use Rattle.sq_graph.specs.Graph.{Graph}
use Rattle.sq_graph.specs.Blocks.{HasBlock, items_of, body_of}
use Rattle.law_patch.specs.Calls.{IsMatching, called_there}
use Rattle.sq_outline.specs.declared.sites.Site.{Site}

-- at each of them, one after another, the items of the procedure's body become an Out of it
abbrev pub called_each : List Site → ℕ → Graph → Graph
called_each [] procedure g = g
called_each (site ∷ sites) procedure g = called_each sites procedure (called_there g site.block site.at procedure)

-- there is such a place
pub record IsPlace (g : Graph) (site : Site) : Type 0 where
  pub there : HasBlock g site.block
  pub within : site.at ≤ length (items_of g site.block)

-- the items there match the procedure's body
abbrev pub MatchesAt : Graph → ℕ → Site → Type 0
MatchesAt g procedure site = IsMatching g site.block site.at procedure

-- n items from the one place on end before the other, where the two are in one block
abbrev pub EndsBefore : ℕ → Site → Site → Type 0
EndsBefore n before after = before.block ≡ after.block → before.at + n ≤ after.at

-- n items at each don't overlap those at another, and of two in one block that further right comes first
abbrev pub AreApart : ℕ → List Site → Type 0
AreApart n [] = Unit {0}
AreApart n (site ∷ sites) = All (λ other. EndsBefore n other site) sites × AreApart n sites

-- the items at each of these places, which don't overlap, match the procedure's body, which has some
pub record MayCallEach (g : Graph) (sites : List Site) (procedure : ℕ) : Type 0 where
  pub some : 1 ≤ length (body_of g procedure)
  pub apart : AreApart (length (body_of g procedure)) sites
  pub matching : All (MatchesAt g procedure) sites
