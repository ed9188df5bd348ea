use Rattle.law_patch.proofs.StayingDead.{fall_dead, detour_dead, invert_dead, shorten_dead, hasten_dead, drop_dead, drop_moves_dead, restrict_dead, tail_dead, tail_moves_dead, merge_dead, body_dead, split_dead, split_moves_dead, canonical_dead, outline_dead, call_dead, call_moves_dead, match_dead, match_moves_dead, inline_dead, inline_moves_dead, recall_dead, uncalled_goes_dead, insert_dead, exchange_dead, reorder_dead}
use Rattle.law_patch.proofs.liveness.operations_keep_dead.Goals as goal

pub returns-clause-fall : goal.returns-clause-fall
returns-clause-fall c = fall_dead

pub returns-clause-detour : goal.returns-clause-detour
returns-clause-detour c = detour_dead

pub returns-clause-invert : goal.returns-clause-invert
returns-clause-invert c = invert_dead

pub returns-clause-shorten : goal.returns-clause-shorten
returns-clause-shorten c = shorten_dead

pub returns-clause-hasten : goal.returns-clause-hasten
returns-clause-hasten c = hasten_dead

pub returns-clause-drop : goal.returns-clause-drop
returns-clause-drop c = drop_dead

pub returns-clause-drop_moves : goal.returns-clause-drop_moves
returns-clause-drop_moves c = drop_moves_dead

pub returns-clause-restrict : goal.returns-clause-restrict
returns-clause-restrict c = restrict_dead

pub returns-clause-tail : goal.returns-clause-tail
returns-clause-tail c = tail_dead

pub returns-clause-tail_moves : goal.returns-clause-tail_moves
returns-clause-tail_moves c = tail_moves_dead

pub returns-clause-merge : goal.returns-clause-merge
returns-clause-merge c = merge_dead

pub returns-clause-body : goal.returns-clause-body
returns-clause-body c = body_dead

pub returns-clause-split : goal.returns-clause-split
returns-clause-split c = split_dead

pub returns-clause-split_moves : goal.returns-clause-split_moves
returns-clause-split_moves c = split_moves_dead

pub returns-clause-canonical : goal.returns-clause-canonical
returns-clause-canonical c = canonical_dead

pub returns-clause-outline : goal.returns-clause-outline
returns-clause-outline c = outline_dead

pub returns-clause-call : goal.returns-clause-call
returns-clause-call c = call_dead

pub returns-clause-call_moves : goal.returns-clause-call_moves
returns-clause-call_moves c = call_moves_dead

pub returns-clause-matching : goal.returns-clause-matching
returns-clause-matching c = match_dead

pub returns-clause-match_moves : goal.returns-clause-match_moves
returns-clause-match_moves c = match_moves_dead

pub returns-clause-inline : goal.returns-clause-inline
returns-clause-inline c = inline_dead

pub returns-clause-inline_moves : goal.returns-clause-inline_moves
returns-clause-inline_moves c = inline_moves_dead

pub returns-clause-recall : goal.returns-clause-recall
returns-clause-recall c = recall_dead

pub returns-clause-uncalled_goes : goal.returns-clause-uncalled_goes
returns-clause-uncalled_goes c = uncalled_goes_dead

pub returns-clause-insert : goal.returns-clause-insert
returns-clause-insert c = insert_dead

pub returns-clause-exchange : goal.returns-clause-exchange
returns-clause-exchange c = exchange_dead

pub returns-clause-reorder : goal.returns-clause-reorder
returns-clause-reorder c = reorder_dead
