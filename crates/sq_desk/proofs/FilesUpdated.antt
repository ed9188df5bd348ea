-- A change of a map under a text is the same change of its files.
use Rattle.std.proofs.Common.{◌≡◌, ℕ, Bool, true, false, cond, List, Option, String, BTreeMap, refl, ap, ◌∙◌}
use Rattle.std.specs.Option.{option_map}
use Rattle.std.specs.Map.{update}
use Rattle.std.specs.Str.{bytes_eq}
use Rattle.std.specs.String.{string_bytes, string_cmp}
use Rattle.std.specs.BTreeMap.{get_by_text, UpdatesBy}
use Rattle.std.specs.Cmp.Lexicographic.{slice_cmp}
use Rattle.std.specs.Ordering.{nat_cmp}
use Rattle.std.proofs.lemmas.Map.Text.{btree_map_updates_text}

-- a view of a chosen option is the choice of the views
option_map-cond : {X : Type 0} (view : X → List ℕ) (b : Bool) (x y : Option X) → option_map view (cond b x y) ≡ cond b (option_map view x) (option_map view y)
option_map-cond view true x y = refl
option_map-cond view false x y = refl

pub files_updated : {X Y : Type 0} (view : X → List ℕ) (old new : BTreeMap (String Y) X) (name : List ℕ) (content : Option X) → UpdatesBy string_cmp (λ k. slice_cmp nat_cmp name (string_bytes k)) old new content → (λ other. option_map view (get_by_text new other)) ≡ update bytes_eq (λ other. option_map view (get_by_text old other)) name (option_map view content)
files_updated view old new name content updates = λ i other. at other i
  where
    at : (other : List ℕ) → option_map view (get_by_text new other) ≡ update bytes_eq (λ q. option_map view (get_by_text old q)) name (option_map view content) other
    at other = ap (option_map view) (btree_map_updates_text name old new content updates other) ∙ option_map-cond view (bytes_eq name other) content (get_by_text old other)
