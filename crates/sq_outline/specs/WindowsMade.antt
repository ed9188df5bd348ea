-- Row W: items that stand at several places become a procedure, which is called there.
use Rattle.std.specs.Prelude.{◌≡◌, ℕ, ◌+◌, ◌*◌, ◌-◌, ◌≤◌, List, [], ◌∷◌, length, map, take, drop}
use Rattle.std.specs.List.{All}
use Rattle.sq_graph.specs.declared.item.Item.{Item}
use Rattle.sq_graph.specs.declared.parts.Room.{Room}
use Rattle.sq_graph.specs.Graph.{Graph}
use Rattle.sq_graph.specs.Blocks.{HasBlock, items_of}
use Rattle.sq_graph.specs.Operations.{outlined}
use Rattle.sq_pass.specs.declared.cut.Cut.{Cut}
use Rattle.sq_pass.specs.declared.cut.Row.TheVariants.{W}
use Rattle.sq_outline.specs.declared.sites.Site.{Site}
use Rattle.sq_outline.specs.Sites.{called_each}
use Rattle.sq_outline.specs.Links.{IsLink}
use Rattle.sq_outline.specs.Made.{ArePlain}
use Rattle.sq_outline.specs.WindowsPlaces.{in_block, occurrences, calls_for}

-- the n items of a block from a place on
abbrev pub items_at : Graph → ℕ → ℕ → ℕ → List Item
items_at g block at n = take n (drop at (items_of g block))

-- n items there are the whole body
abbrev pub IsWhole : Graph → ℕ → Site → Type 0
IsWhole g n site = length (items_of g site.block) ≡ n

-- the places behind n items
abbrev pub behind_by : ℕ → Site → Site
behind_by n site = record site { at = site.at + n }

abbrev pub behind : ℕ → List Site → List Site
behind n sites = map (behind_by n) sites

-- W: a window of 3 to 16 items, without Out, LR and SC, that occurs k times and first at this place, once at least not as a
-- whole body, and its link. A call stands for each, and the procedure is n items and a word that returns: k(n - 1) - (n + 1)
-- words are saved, at least one
pub record IsWindowMade (g : Graph) (block at n link saving : ℕ) : Type 0 where
  pub least : 3 ≤ n
  pub most : n ≤ 16
  pub there : HasBlock g block
  pub within : at + n ≤ length (items_of g block)
  pub plain : ArePlain (items_at g block at n)
  pub others : List Site
  pub first : occurrences g (items_at g block at n) ≡ in_block block at ∷ others
  pub part : ¬ All (IsWhole g n) (occurrences g (items_at g block at n))
  pub linked : IsLink g (items_at g block at n) (behind n (occurrences g (items_at g block at n))) link
  pub saves : saving + (n + 1) ≡ length (occurrences g (items_at g block at n)) * (n - 1)
  pub some : 1 ≤ saving

-- W: the window becomes the last procedure, and each occurrence a call of it
abbrev pub window_made : Graph → ℕ → ℕ → ℕ → ℕ → Graph
window_made g block at n link = called_each (calls_for g (items_at g block at n)) (length g.procedures) (outlined g block at n link)

-- what this needs: room for the procedure. The calls take the room of the items
abbrev pub room_for_window : ℕ → Room
room_for_window n = record { blocks = 0; items = n; procedures = 1 }

-- the cut of the window at a place
abbrev pub window_cut : ℕ → ℕ → ℕ → ℕ → ℕ → Cut
window_cut block at n link saving =
    record { row = W; blocks = block ∷ []; procedure = 0; other = at; length = n; link = link; saving = saving }

-- a cut of W
pub record IsWindowCut (g : Graph) (cut : Cut) : Type 0 where
  pub block : ℕ
  pub made : IsWindowMade g block cut.other cut.length cut.link cut.saving
  pub is : cut ≡ window_cut block cut.other cut.length cut.link cut.saving
