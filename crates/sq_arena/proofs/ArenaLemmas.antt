-- How the list of an arena follows its links.
use Rattle.std.proofs.Common.{◌≡◌, ℕ, ◌+◌, ◌-◌, ◌<◌, ◌^◌, List, [], ◌∷◌, ◌++◌, length, Option, None, Some, refl, sym, ap, ◌∙◌, inl, inr, arith}
use Rattle.std.proofs.lemmas.Bool.{cases_eq, eq-eqb, ne_eqb}
use Rattle.std.proofs.lemmas.List.{length-append}
use Rattle.sq_arena.specs.declared.links.Links.{Links}
use Rattle.sq_arena.specs.Entries.{HasDistinctKeys, value_of}
use Rattle.sq_arena.specs.Links.{once, times, IsPath, places, value_at, next_at, previous_at, IsJoined, HoldsEach, IsLinked, Joins, Splices, Fills, Frees, listed, listed_from, IsArena}
use Rattle.sq_arena.proofs.Paths.{once_other}
use Rattle.sq_arena.proofs.Pieces.{first_place, last_place, run_end, ring_of, ring_middle, pieces_of, ahead_of_run, behind_run, others_of}
use Rattle.sq_arena.proofs.EntriesLaws.{distinct_keys}
use Rattle.sq_arena.proofs.Relinks.{cut_pieces, spliced, filled_pieces, freed}

module _ {T : Type 0} where
  pub listed_from-path : (l : Links T) (p : Option ℕ) (xs : List (ℕ × T)) → HoldsEach l xs → IsPath (IsJoined l) p (places xs ++ None ∷ []) → listed_from l (length xs) (next_at l p) ≡ xs
  listed_from-path l p [] held path = refl
  listed_from-path l p (e ∷ rest) held path =
      rw (path.0.0, held.0) (ap (λ ps. e ∷ ps) (listed_from-path l (Some e.0) rest held.1 path.1))

  -- the fields show this list
  pub record Shows (l : Links T) (len spare : ℕ) (xs : List (ℕ × T)) : Type 0 where
    pub sound : IsArena l len spare
    pub list : listed l len ≡ xs

  pub Shows-linked : (l : Links T) (len spare : ℕ) (xs : List (ℕ × T)) (ss : List ℕ) → IsLinked l xs ss → length xs ≡ len → length ss ≡ spare → len + spare < 2 ^ 32 → Shows l len spare xs
  Shows-linked l len spare xs ss linked counted to_spare bound =
      let list : listed l len ≡ xs = ap (λ n. listed l n) (sym counted) ∙ listed_from-path l None xs linked.values linked.path in
      record {
        sound = record {
          spare_keys = ss;
          linked = rw list linked;
          counted = rw list counted;
          to_spare = to_spare;
          bound = bound;
        };
        list = list;
      }

  pub Shows-distinct : (l : Links T) (len spare : ℕ) (xs : List (ℕ × T)) → Shows l len spare xs → HasDistinctKeys xs
  Shows-distinct l len spare xs shows =
      let linked : IsLinked l xs shows.sound.spare_keys = rw shows.list at shows.sound.linked in
      distinct_keys xs (λ p. omega (arith, linked.distinct p))

  -- a value stands under exactly the keys of the list
  pub value_at-value_of : (l : Links T) (key : ℕ) (xs : List (ℕ × T)) → HoldsEach l xs → (times (Some key) (places xs) ≡ 0 → value_at l key ≡ None) → value_at l key ≡ value_of xs key
  value_at-value_of l key [] held others = others refl
  value_at-value_of l key (e ∷ rest) held others =
      elim (cases_eq e.0 key) [
        | inl same ↦ rw (eq-eqb e.0 key same) (ap (value_at l) (sym same) ∙ held.0)
        | inr differs ↦
            let none : once (Some key) (Some e.0) ≡ 0 = once_other (Some key) (Some e.0) (λ e'. differs (cc)) in
            rw (ne_eqb e.0 key differs) (value_at-value_of l key rest held.1 (λ absent. others (omega arith)))
      ]

  -- the key is given a value right behind the front
  pub insert_shows : (l mid m : Links T) (len spare : ℕ) (front back : List (ℕ × T)) (key : ℕ) (value : T) → IsArena l len spare → listed l len ≡ front ++ back → Fills l mid key value → Splices mid m (last_place front) key key → 0 < spare → Shows m (len + 1) (spare - 1) (front ++ (key, value) ∷ back)
  insert_shows l mid m len spare front back key value arena list fills splices room =
      by_spare arena.spare_keys (rw list at arena.linked) arena.to_spare
    where
      by_spare : (ss : List ℕ) → IsLinked l (front ++ back) ss → length ss ≡ spare → Shows m (len + 1) (spare - 1) (front ++ (key, value) ∷ back)
      by_spare [] linked to_spare = absurd (omega arith)
      by_spare (k ∷ ss) linked to_spare =
          let both : Some key ≡ Some k = sym fills.was_vacant ∙ linked.spare.0 in
          let same : k ≡ key = cc in
          let linked' : IsLinked l (front ++ back) (key ∷ ss) = rw same at linked in
          let pieces = filled_pieces l mid front back key value ss linked' fills in
          let joined = ring_middle l front back linked'.path in
          let behind : next_at mid (last_place front) ≡ first_place back = fills.next (last_place front) ∙ joined.0 in
          let second : Joins splices.between m (Some key) (first_place back) = rw behind at splices.back in
          let whole = spliced mid splices.between m front (key, value) [] back ss pieces splices.front second in
          let count : length (front ++ back) ≡ len = ap length (sym list) ∙ arena.counted in
          Shows-linked m (len + 1) (spare - 1) (front ++ (key, value) ∷ back) ss whole
          (omega (arith, length-append front back, length-append front ((key, value) ∷ back)))
          (omega arith)
          (omega (arith, arena.bound))

  -- the pair leaves the list
  pub unlink_shows : (l mid m : Links T) (len spare : ℕ) (front back : List (ℕ × T)) (key : ℕ) (value freed_value : T) → IsArena l len spare → listed l len ≡ front ++ (key, value) ∷ back → Joins l mid (previous_at l (Some key)) (next_at l (Some key)) → Frees mid m key freed_value → Shows m (len - 1) (spare + 1) (front ++ back) × (freed_value ≡ value)
  unlink_shows l mid m len spare front back key value freed_value arena list joins frees =
      let linked : IsLinked l (front ++ ((key, value) ∷ [] ++ back)) arena.spare_keys = rw list at arena.linked in
      let ahead = ahead_of_run l front (key, value) [] back arena.spare_keys linked in
      let behind = behind_run l front (key, value) [] back arena.spare_keys linked in
      let joins' : Joins l mid (last_place front) (first_place back) = rw (ahead.1, behind.0) at joins in
      let pieces = cut_pieces l mid front (key, value) [] back arena.spare_keys joins' (pieces_of l front (key, value) [] back arena.spare_keys linked) in
      let both : Some freed_value ≡ Some value = sym frees.held ∙ pieces.run_values.0 in
      let same : freed_value ≡ value = cc in
      let frees' : Frees mid m key value = rw same at frees in
      let count : length (front ++ (key, value) ∷ back) ≡ len = ap length (sym list) ∙ arena.counted in (
        Shows-linked m (len - 1) (spare + 1) (front ++ back) (key ∷ arena.spare_keys) (freed mid m front back key value arena.spare_keys pieces joins'.joined frees')
            (omega (arith, length-append front back, length-append front ((key, value) ∷ back)))
            (omega (arith, arena.to_spare))
            (omega (arith, arena.bound, length-append front ((key, value) ∷ back))),
        same,
      )

  -- a run moves to another place
  pub move_shows : (l mid m : Links T) (len spare : ℕ) (front : List (ℕ × T)) (head : ℕ × T) (tail back front' back' : List (ℕ × T)) (last : ℕ) → IsArena l len spare → listed l len ≡ front ++ (head ∷ tail ++ back) → run_end head tail ≡ Some last → Joins l mid (previous_at l (Some head.0)) (next_at l (Some last)) → front ++ back ≡ front' ++ back' → Splices mid m (last_place front') head.0 last → Shows m len spare (front' ++ (head ∷ tail ++ back'))
  move_shows l mid m len spare front head tail back front' back' last arena list ends joins same splices =
      let linked : IsLinked l (front ++ (head ∷ tail ++ back)) arena.spare_keys = rw list at arena.linked in
      let ahead = ahead_of_run l front head tail back arena.spare_keys linked in
      let behind : IsJoined l (Some last) (first_place back) = rw ends at (behind_run l front head tail back arena.spare_keys linked) in
      let joins' : Joins l mid (last_place front) (first_place back) = rw (ahead.1, behind.0) at joins in
      let cut = cut_pieces l mid front head tail back arena.spare_keys joins' (pieces_of l front head tail back arena.spare_keys linked) in
      let pieces = others_of mid front head tail back arena.spare_keys cut joins'.joined front' back' same in
      let path = rw same at (ring_of mid front back cut.front_path joins'.joined cut.back_path) in
      let joined = ring_middle mid front' back' path in
      let second : Joins splices.between m (run_end head tail) (first_place back') = rw ends (rw joined.0 at splices.back) in
      let whole = spliced mid splices.between m front' head tail back' arena.spare_keys pieces splices.front second in
      let count : length (front ++ (head ∷ tail ++ back)) ≡ len = ap length (sym list) ∙ arena.counted in
      let counts : length (front ++ back) ≡ length (front' ++ back') = ap length same in
      Shows-linked m len spare (front' ++ (head ∷ tail ++ back')) arena.spare_keys whole
      (omega (arith, length-append front back, length-append front' back', length-append front (head ∷ tail ++ back), length-append front' (head ∷ tail ++ back'), length-append tail back, length-append tail back'))
      arena.to_spare
      arena.bound
