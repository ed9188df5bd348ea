-- What `fold` left where it came to its store.
use Rattle.std.proofs.Common.{◌≡◌, ℕ, List, Some, ap, ◌∙◌}
use Rattle.std.specs.Option.{option_map}
use Rattle.sq_desk.specs.Outside.{Outside, Files, with_file}
use Rattle.sq_top.specs.declared.folding.FoldedFile.{FoldedFile}
use Rattle.sq_top.specs.FoldEndings.{StoresFolded}
use Rattle.sq_top.specs.Promises.{HoldsFold}

-- where files are told, the stored folding is in its place
pub fold_in_place : {input output : List ℕ} {folded : FoldedFile} {before after : Outside} → StoresFolded input output folded before after → (files : Files) → before.files ≡ Some files → after.files ≡ Some (with_file output (Some folded.bytes.items) files)
fold_in_place {output = output} {folded = folded} stored files told = stored.stores ∙ ap (option_map (with_file output (Some folded.bytes.items))) told

pub holds_fold : {input output : List ℕ} {folded : FoldedFile} {before after : Outside} → StoresFolded input output folded before after → HoldsFold input output before after
holds_fold {folded = folded} stored files told = (folded.bytes.items, (stored.folds files told).good, fold_in_place stored files told)
