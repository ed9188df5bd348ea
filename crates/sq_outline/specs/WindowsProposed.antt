-- Windows that one look finds.
use Rattle.std.specs.Prelude.{◌≡◌, ◌+◌, ◌≤◌, List, length, take, drop}
use Rattle.std.specs.List.{All}
use Rattle.sq_graph.specs.Graph.{Graph}
use Rattle.sq_finger.specs.declared.places.WindowAt.{WindowAt}
use Rattle.sq_outline.specs.WindowsMade.{IsWindowMade, items_at}
use Rattle.sq_outline.specs.WindowsSearch.{standing}
use Rattle.sq_outline.specs.declared.windows.proposals.FoundWindow.{FoundWindow}
use Rattle.sq_outline.specs.declared.windows.left.FoundWindows.{FoundWindows}

-- the window may become a procedure
abbrev pub IsFoundWindow : Graph → FoundWindow → Type 0
IsFoundWindow g w = IsWindowMade g w.found.first.block w.found.first.at w.n w.found.link w.found.saving

-- those of these places that a window names
abbrev pub places_of : List WindowAt → FoundWindow → List WindowAt
places_of places w = take w.places (drop w.place places)

-- the window's, if there are any, are all places where the first items of its first one stand, so many as are told
pub record IsPlacedIn (g : Graph) (places : List WindowAt) (w : FoundWindow) : Type 0 where
  pub within : w.place + w.places ≤ length places
  pub some : 1 ≤ w.known
  pub most : w.known ≤ w.n
  pub all : 1 ≤ w.places → places_of places w ≡ standing g (items_at g w.found.first.block w.found.first.at w.known)

-- the same where it is known where windows stand
abbrev pub IsFoundIn : Graph → List WindowAt → FoundWindow → Type 0
IsFoundIn g places w = 1 ≤ length places → IsPlacedIn g places w

abbrev pub AreFound : Graph → FoundWindows → Type 0
AreFound g found = All (IsFoundIn g found.places.items) found.windows.items
