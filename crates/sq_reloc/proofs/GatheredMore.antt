-- What is gathered of entries, with one entry more.
use Rattle.std.proofs.Common.{◌≡◌, ℕ, ◌&&◌, ◌||◌, nat_eq, if◌then◌else◌, List, [], ◌∷◌, ◌++◌, Some, None, sym, subst, ap, ◌∙◌}
use Rattle.std.specs.Option.{option_or}
use Rattle.std.specs.Ordering.{nat_cmp}
use Rattle.std.specs.HashSet as set
use Rattle.std.specs.BTreeMap as tree
use Rattle.sq_elf.specs.declared.text.Text.{Text}
use Rattle.sq_elf.specs.Text.{text_of}
use Rattle.sq_reloc.specs.declared.entry.Entry.{Entry}
use Rattle.sq_reloc.specs.declared.gathered.Gathered.{Gathered}
use Rattle.sq_reloc.specs.Kinds.{touches}
use Rattle.sq_reloc.specs.Entries.{target_of}
use Rattle.sq_reloc.specs.Gathering.{IsGathered}
use Rattle.sq_reloc.specs.Outside.{is_code_entry, makes_stale}
use Rattle.sq_reloc.specs.Required.{is_upper}
use Rattle.sq_reloc.specs.Tables.{is_bad_symbol}
use Rattle.sq_reloc.proofs.FirstTargets.{first_push}
use Rattle.sq_reloc.proofs.SeenMore.{any_more, found_more}

-- how one entry changes what is gathered
pub record IsAdded (text : Text) (bytes : List ℕ) (old new : Gathered) (e : Entry) : Type 0 where
  pub stale : (address : ℕ) → set.contains nat_eq new.stale address ≡ (set.contains nat_eq old.stale address || makes_stale text e && touches e address)
  pub targets : (address : ℕ) → tree.get nat_cmp new.targets address ≡ option_or (tree.get nat_cmp old.targets address) (if is_code_entry text e && nat_eq e.offset address then Some (target_of e) else None)
  pub uppers : (address : ℕ) → tree.get nat_cmp new.uppers address ≡ option_or (tree.get nat_cmp old.uppers address) (if is_upper e && nat_eq e.offset address then Some (target_of e) else None)
  pub lacking : new.lacking ≡ option_or old.lacking (if is_bad_symbol bytes e then Some e else None)

module _ (bytes : List ℕ) (old new : Gathered) (e : Entry) (added : IsAdded (text_of bytes) bytes old new e) (entries : List Entry) (before : IsGathered bytes old entries) where
  pub gathered_more : IsGathered bytes new (entries ++ e ∷ [])
  gathered_more = record {
    stale_is = λ address.
        added.stale address ∙ ap (λ b. b || (makes_stale (text_of bytes) e && touches e address)) (before.stale_is address)
        ∙ sym (any_more (λ x. makes_stale (text_of bytes) x && touches x address) entries e);
    targets_are = λ address.
        added.targets address ∙ ap (λ found. option_or found (if is_code_entry (text_of bytes) e && nat_eq e.offset address then Some (target_of e) else None)) (before.targets_are address)
        ∙ sym (first_push (is_code_entry (text_of bytes)) entries e address);
    uppers_are = λ address.
        added.uppers address ∙ ap (λ found. option_or found (if is_upper e && nat_eq e.offset address then Some (target_of e) else None)) (before.uppers_are address)
        ∙ sym (first_push is_upper entries e address);
    lacking_is =
        added.lacking ∙ ap (λ found. option_or found (if is_bad_symbol bytes e then Some e else None)) before.lacking_is
        ∙ sym (found_more (is_bad_symbol bytes) entries e);
  }

-- text is that of the file
pub add_by_text : (text : Text) (bytes : List ℕ) (old new : Gathered) (e : Entry) → text ≡ text_of bytes → IsAdded text bytes old new e → (entries : List Entry) → IsGathered bytes old entries → IsGathered bytes new (entries ++ e ∷ [])
add_by_text text bytes old new e text_is added entries before =
    let Added : Text → Type 0 = λ t. IsAdded t bytes old new e in
    gathered_more bytes old new e (subst Added text_is added) entries before
