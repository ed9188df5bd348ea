-- What is dead at a place that stays is dead there when a graph is changed by one of the operations.
use Rattle.std.proofs.Common.{◌≡◌, ℕ, ◌+◌, [], arith, subst}
use Rattle.sq_graph.specs.Lines.{place_lines}
use Rattle.sq_graph.specs.Operations.{replaced, split_at}
use Rattle.sq_graph.specs.Walks.{IsLive}
use Rattle.sq_graph.specs.Graph.{Graph}
use Rattle.law_patch.specs.Merges.{tailed}
use Rattle.law_patch.specs.Liveness.{FallKeepsDead, HastenKeepsDead, DropKeepsDead, DropMovesDead, ShortenKeepsDead, UnreachedKeepsDead, DetourKeepsDead, InvertKeepsDead, MergeKeepsDead, BodyKeepsDead, TailKeepsDead, TailMovesDead, SplitKeepsDead, SplitMovesDead, CanonicalKeepsDead, InlineKeepsDead, InlineMovesDead, OutlineKeepsDead, CallKeepsDead, CallMovesDead, MatchKeepsDead, MatchMovesDead, RecallKeepsDead, UncalledGoesKeepsDead, InsertKeepsDead, ExchangeKeepsDead, ReorderKeepsDead}
use Rattle.law_patch.proofs.OneBlock.{fall_live, hasten_place, drop_live, drop_moves, inline_live, inline_moves, split_live, split_moves}
use Rattle.law_patch.proofs.Merging.{can_merge, merge_live}
use Rattle.law_patch.proofs.MatchedBodies.{body_live}
use Rattle.law_patch.proofs.Tailing.{tail_live, tail_moves}
use Rattle.law_patch.proofs.Joining.{canonical_live}
use Rattle.law_patch.proofs.Calls.{call_live, call_moves}
use Rattle.law_patch.proofs.MatchedCalls.{match_live, match_moves}
use Rattle.law_patch.proofs.Recalling.{outline_live, recall_live, uncalled_goes_live}
use Rattle.law_patch.proofs.Inserting.{insert_live}
use Rattle.law_patch.proofs.Exchanging.{exchange_live}
use Rattle.law_patch.proofs.Reordering.{reorder_live}
use Rattle.law_patch.proofs.Shortening.{shorten_live}
use Rattle.law_patch.proofs.Restricting.{restrict_live}
use Rattle.law_patch.proofs.Detouring.{detour_live}
use Rattle.law_patch.proofs.Inverting.{invert_live}

-- a place of a block, as one behind its start
from_start : (h : Graph) (block place r : ℕ) → IsLive h r (place_lines h block (0 + place)) → IsLive h r (place_lines h block place)
from_start h block place r live = let same : 0 + place ≡ place = omega arith in subst (λ k. IsLive h r (place_lines h block k)) same live

pub fall_dead : FallKeepsDead
fall_dead g block n rules jumps slot other place r has l stays gone live = gone (fall_live g block n rules jumps slot other place r l live)

pub hasten_dead : HastenKeepsDead
hasten_dead g block link part to rules jumps other place r has l stays gone live = gone (hasten_place g block link part to rules jumps other place r l live)

pub detour_dead : DetourKeepsDead
detour_dead g block to rules leads other place r has l stays gone live = gone (detour_live g block to rules leads other place r stays l live)

pub invert_dead : InvertKeepsDead
invert_dead g block cond a b over behind to rules jumped other place r has l stays gone live = gone (invert_live g block cond a b over behind to rules jumped other place r stays l live)

pub drop_dead : DropKeepsDead
drop_dead g block at rd to rules there dead other place r has l stays gone live = gone (drop_live g block at rd to rules there dead other place r has l stays live)

pub shorten_dead : ShortenKeepsDead
shorten_dead g block at link part to rules can other place r has l stays gone live = gone (shorten_live g block at link part to rules can other place r has l stays live)

pub restrict_dead : UnreachedKeepsDead
restrict_dead g keep held rules closed other place r has l stays gone live = gone (restrict_live g keep held rules closed other place r stays l live)

pub split_dead : SplitKeepsDead
split_dead g new block at rules fresh there other place r has l stays gone live = gone (split_live g new block at rules fresh there other place r has l stays live)

pub split_moves_dead : SplitMovesDead
split_moves_dead g new block at rules fresh there place r l gone live = gone (split_moves g new block at rules fresh there place r l (from_start (split_at g new block at) new place r live))

pub inline_dead : InlineKeepsDead
inline_dead g block at procedure rules sound there other place r has l stays gone live = gone (inline_live g block at procedure rules there sound other place r has l stays live)

pub recall_dead : RecallKeepsDead
recall_dead g from to rules equal other place r has l stays gone live = gone (recall_live g from to rules equal other place r l live)

pub uncalled_goes_dead : UncalledGoesKeepsDead
uncalled_goes_dead g procedure rules unused other place r has l stays gone live = gone (uncalled_goes_live g procedure rules unused other place r l live)

pub insert_dead : InsertKeepsDead
insert_dead g new block next rules fresh there slot other place r has l stays gone live = gone (insert_live g new block next rules fresh there slot other place r has l live)

pub exchange_dead : ExchangeKeepsDead
exchange_dead g block cond a b over away to rules over_jump other place r has l stays gone live = gone (exchange_live g block cond a b over away to rules over_jump other place r stays l live)

pub reorder_dead : ReorderKeepsDead
reorder_dead g blocks rules order other place r has l stays gone live = gone (reorder_live g blocks rules order other place r has l live)

pub canonical_dead : CanonicalKeepsDead
canonical_dead g rules other place r has l stays gone live = gone (canonical_live g rules other place r has stays l live)

pub merge_dead : MergeKeepsDead
merge_dead g dropped at kept rules can other place r has l stays gone live = gone (merge_live g dropped at kept rules (can_merge g dropped at kept can) other place r l stays live)

pub body_dead : BodyKeepsDead
body_dead g dropped kept rules bodies other place r has l stays gone live = gone (body_live g dropped kept rules bodies other place r l stays live)

pub tail_dead : TailKeepsDead
tail_dead g new dropped at kept from rules fresh tail other place r has l stays gone live = gone (tail_live g new dropped at kept from rules fresh tail other place r has l stays.0 stays.1 live)

pub tail_moves_dead : TailMovesDead
tail_moves_dead g new dropped at kept from rules fresh tail place r l gone live = gone (tail_moves g new dropped at kept from rules fresh tail place r l (from_start (tailed g new dropped at kept from) new place r live))

pub outline_dead : OutlineKeepsDead
outline_dead g block at size link rules other place r has l stays gone live = gone (outline_live g block at size link rules other place r l live)

pub call_dead : CallKeepsDead
call_dead g block at procedure rules callable other place r has l stays gone live = gone (call_live g block at procedure rules callable other place r has l stays live)

pub match_dead : MatchKeepsDead
match_dead g block at procedure rules matching other place r has l stays gone live = gone (match_live g block at procedure rules matching other place r has l stays live)

pub drop_moves_dead : DropMovesDead
drop_moves_dead g block at rd to rules there dead place r l gone live =
    let same : at + place ≡ (at + 0) + place = omega arith in
    let h = replaced g block at 1 [] in
    gone (drop_moves g block at rd to rules there dead place r l (subst (λ k. IsLive h r (place_lines h block k)) same live))

pub inline_moves_dead : InlineMovesDead
inline_moves_dead g block at procedure rules sound there place r l gone live = gone (inline_moves g block at procedure rules there sound place r l live)

pub call_moves_dead : CallMovesDead
call_moves_dead g block at procedure rules callable place r l gone live = gone (call_moves g block at procedure rules callable place r l live)

pub match_moves_dead : MatchMovesDead
match_moves_dead g block at procedure rules matching place r l gone live = gone (match_moves g block at procedure rules matching place r l live)
