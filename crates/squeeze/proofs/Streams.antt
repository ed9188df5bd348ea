-- Reads and writes one after another.
use Rattle.std.proofs.Common.{◌≡◌, ℕ, ◌<◌, ◌≤◌, List, [], ◌++◌, length, Option, Some, None, refl, sym, ap, ◌∙◌, arith, append_assoc, append-nil, length-append}
use Rattle.std.specs.Option.{IfSome}
use Rattle.std.specs.Io.KnownBytes.{Appends, Consumes, Keeps, IsAtEnd}
use Rattle.squeeze.specs.Streams.{ConsumesAtMost}

-- what two reads took is what they took one after the other
pub consumes_more : (old middle new : Option (List ℕ)) (first second : List ℕ) → Consumes old middle first → Consumes middle new second → Consumes old new (first ++ second)
consumes_more None middle new first second took more = tt
consumes_more (Some xs) None new first second took more = absurd took
consumes_more (Some xs) (Some ys) None first second took more = absurd more
consumes_more (Some xs) (Some ys) (Some zs) first second took more =
    took ∙ ap (λ rest. first ++ rest) more ∙ sym (append_assoc first second zs)

-- a read that fails takes nothing
pub consumes_kept : (old middle new : Option (List ℕ)) (taken : List ℕ) → Consumes old middle taken → Keeps middle new → Consumes old new taken
consumes_kept None middle new taken took kept = tt
consumes_kept (Some xs) None new taken took kept = absurd took
consumes_kept (Some xs) (Some ys) None taken took kept = absurd kept
consumes_kept (Some xs) (Some ys) (Some zs) taken took kept = took ∙ ap (λ rest. taken ++ rest) (sym kept)

-- at the end all was taken
pub whole_at_end : (old new : Option (List ℕ)) (taken : List ℕ) → Consumes old new taken → IsAtEnd new → IfSome old (λ left. taken ≡ left)
whole_at_end None new taken took ended = tt
whole_at_end (Some xs) None taken took ended = absurd took
whole_at_end (Some xs) (Some ys) taken took ended = sym (took ∙ ap (λ rest. taken ++ rest) ended ∙ append-nil taken)

pub at_most : (most : ℕ) (old new : Option (List ℕ)) (taken : List ℕ) → Consumes old new taken → length taken ≤ most → ConsumesAtMost most old new
at_most most None new taken took few = tt
at_most most (Some xs) None taken took few = absurd took
at_most most (Some xs) (Some ys) taken took few = (taken, took, few)

-- there was at least as much as was taken
pub longer : (limit : ℕ) (old new : Option (List ℕ)) (taken : List ℕ) → Consumes old new taken → limit < length taken → IfSome old (λ left. limit < length left)
longer limit None new taken took more = tt
longer limit (Some xs) None taken took more = absurd took
longer limit (Some xs) (Some ys) taken took more = rw took (simp length-append (omega arith))

-- what two writes appended is what they appended one after the other
pub appends_more : (old middle new : Option (List ℕ)) (first second : List ℕ) → Appends old middle first → Appends middle new second → Appends old new (first ++ second)
appends_more None middle new first second wrote more = tt
appends_more (Some xs) None new first second wrote more = absurd wrote
appends_more (Some xs) (Some ys) None first second wrote more = absurd more
appends_more (Some xs) (Some ys) (Some zs) first second wrote more =
    more ∙ ap (λ front. front ++ second) wrote ∙ append_assoc xs first second

pub appends_nothing : (old : Option (List ℕ)) → Appends old old []
appends_nothing None = tt
appends_nothing (Some xs) = sym (append-nil xs)

pub consumes_nothing : (old : Option (List ℕ)) → Consumes old old []
consumes_nothing None = tt
consumes_nothing (Some xs) = refl
