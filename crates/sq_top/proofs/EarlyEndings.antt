-- What is left where a `?` ends a command.
use Rattle.std.proofs.Common.{◌≡◌, ℕ, inl, List, Result, Ok, Err, Some, refl, sym, subst, ap, ◌∙◌}
use Rattle.std.specs.Result.{IsErrAnd, IfErr}
use Rattle.sq_num.specs.declared.refusal.Refusal.{Refusal as Cause}
use Rattle.sq_num.specs.declared.refusal.Denied.{Denied}
use Rattle.sq_num.specs.declared.refusal.Denied.TheVariants.{Refused as DeniedFile, Memory as NoMemory}
use Rattle.sq_elf.proofs.Accepted.{too_long_refused}
use Rattle.sq_command.specs.Commands.{RunRequest}
use Rattle.sq_desk.specs.Outside.{Outside, ForFiles, content_of}
use Rattle.sq_top.specs.declared.ending.Ending.{Ending}
use Rattle.sq_top.specs.declared.ending.Ending.TheVariants.{Done, Words, Desk, Refused, Memory, Break, Limit, BadStart, Differs}
use Rattle.sq_top.specs.declared.ending.DeskCall.TheVariants.{Load, Store, Print}
use Rattle.sq_top.specs.Denials.{denied_ending}
use Rattle.law_program.specs.FilePrograms.{IsRefusalOf}
use Rattle.law_program.specs.FilePrograms.IsRefusalOf.{by_file}
use Rattle.sq_top.specs.Endings.{LeavesUnpacked}
use Rattle.sq_top.specs.RunEndings.{LeavesUnloaded, LeavesUnrun}
use Rattle.sq_top.specs.Running.{file_of}
use Rattle.sq_top.specs.WatchEndings.{LeavesUnwatched}
use Rattle.sq_top.specs.HexEndings.{LeavesUnwritten, LeavesUnchecked}

-- an answer that is this error
abbrev pub error : (T E : Type 0) → E → Result T E
error T E e = Err e

-- an error that is said to be e
pub by_residual : {T : Type 0} (r : Result T Ending) (e : Ending) (P : Ending → Type 0) → IsErrAnd r (λ ending. ending ≡ e) → P e → IfErr r P
by_residual (Ok x) e P is holds = tt
by_residual (Err ending) e P is holds = subst P (sym is) holds

-- where IN is not loaded
pub unloaded : (name : List ℕ) (ending : Ending) (before after : Outside) → LeavesUnloaded name 134217728 ending before after → LeavesUnpacked name ending before after
unloaded name Done before after gone = absurd gone
unloaded name Words before after gone = absurd gone
unloaded name (Desk Load) before after rose = rose
unloaded name (Desk Store) before after gone = absurd gone
unloaded name (Desk Print) before after gone = absurd gone
unloaded name (Refused refusal) before after gone = λ files told. by_file (too_long_refused _ (gone.1 files told) ∙ ap Some (sym gone.0))
unloaded name Memory before after gone = gone
unloaded name Break before after gone = absurd gone
unloaded name Limit before after gone = absurd gone
unloaded name BadStart before after gone = absurd gone
unloaded name (Differs line) before after gone = absurd gone

-- where it is not packed
pub unpacked : (T : Type 0) (name : List ℕ) (denied : Denied) (before after : Outside) (bytes : List ℕ) → ForFiles before (λ files. bytes ≡ content_of files name) →
    ((refusal : Cause) → error T Denied denied ≡ Err (DeniedFile refusal) → IsRefusalOf bytes refusal) → LeavesUnpacked name (denied_ending denied) before after
unpacked T name (DeniedFile refusal) before after bytes told refused = λ files held. subst (λ b. IsRefusalOf b refusal) (told files held) (refused refusal refl)
unpacked T name NoMemory before after bytes told refused = tt

-- where FILE is not loaded
pub file_unloaded : (request : RunRequest) (ending : Ending) (before after : Outside) → LeavesUnloaded request.file 134217728 ending before after → LeavesUnrun request ending before after
file_unloaded request Done before after gone = absurd gone
file_unloaded request Words before after gone = absurd gone
file_unloaded request (Desk Load) before after rose = inl rose
file_unloaded request (Desk Store) before after gone = absurd gone
file_unloaded request (Desk Print) before after gone = absurd gone
file_unloaded request (Refused refusal) before after gone = λ files told. inl (too_long_refused _ (gone.1 files told) ∙ ap Some (sym gone.0))
file_unloaded request Memory before after gone = gone
file_unloaded request Break before after gone = absurd gone
file_unloaded request Limit before after gone = absurd gone
file_unloaded request BadStart before after gone = absurd gone
file_unloaded request (Differs line) before after gone = absurd gone

pub file_unwatched : (request : RunRequest) (ending : Ending) (before after : Outside) → LeavesUnloaded request.file 134217728 ending before after → LeavesUnwatched request ending before after
file_unwatched request Done before after gone = absurd gone
file_unwatched request Words before after gone = absurd gone
file_unwatched request (Desk Load) before after rose = inl rose
file_unwatched request (Desk Store) before after gone = absurd gone
file_unwatched request (Desk Print) before after gone = absurd gone
file_unwatched request (Refused refusal) before after gone = λ files told. inl (by_file (too_long_refused _ (gone.1 files told) ∙ ap Some (sym gone.0)))
file_unwatched request Memory before after gone = gone
file_unwatched request Break before after gone = absurd gone
file_unwatched request Limit before after gone = absurd gone
file_unwatched request BadStart before after gone = absurd gone
file_unwatched request (Differs line) before after gone = absurd gone

-- where FILE is refused
pub file_denied : (request : RunRequest) (denied : Denied) (before after : Outside) (bytes : List ℕ) → ForFiles before (λ files. bytes ≡ file_of request files) →
    ((refusal : Cause) → denied ≡ DeniedFile refusal → IsRefusalOf bytes refusal) → LeavesUnwatched request (denied_ending denied) before after
file_denied request (DeniedFile refusal) before after bytes told refused = λ files held. inl (subst (λ b. IsRefusalOf b refusal) (told files held) (refused refusal refl))
file_denied request NoMemory before after bytes told refused = tt

-- where IN is not loaded, and no text is made
pub unwritten : (name : List ℕ) (ending : Ending) (before after : Outside) → LeavesUnloaded name 134217728 ending before after → LeavesUnwritten name ending before after
unwritten name Done before after gone = absurd gone
unwritten name Words before after gone = absurd gone
unwritten name (Desk Load) before after rose = rose
unwritten name (Desk Store) before after gone = absurd gone
unwritten name (Desk Print) before after gone = absurd gone
unwritten name (Refused refusal) before after gone = λ files told. too_long_refused _ (gone.1 files told) ∙ ap Some (sym gone.0)
unwritten name Memory before after gone = gone
unwritten name Break before after gone = absurd gone
unwritten name Limit before after gone = absurd gone
unwritten name BadStart before after gone = absurd gone
unwritten name (Differs line) before after gone = absurd gone

pub unchecked : (name text : List ℕ) (ending : Ending) (before after : Outside) → LeavesUnloaded name 134217728 ending before after → LeavesUnchecked name text ending before after
unchecked name text Done before after gone = absurd gone
unchecked name text Words before after gone = absurd gone
unchecked name text (Desk Load) before after rose = inl rose
unchecked name text (Desk Store) before after gone = absurd gone
unchecked name text (Desk Print) before after gone = absurd gone
unchecked name text (Refused refusal) before after gone = λ files told. inl (too_long_refused _ (gone.1 files told) ∙ ap Some (sym gone.0))
unchecked name text Memory before after gone = gone
unchecked name text Break before after gone = absurd gone
unchecked name text Limit before after gone = absurd gone
unchecked name text BadStart before after gone = absurd gone
unchecked name text (Differs line) before after gone = absurd gone
