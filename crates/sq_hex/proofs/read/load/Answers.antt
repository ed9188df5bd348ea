use Rattle.std.proofs.Common.{◌≡◌, ◌+◌, true, false, get_or, sym, ◌∙◌, arith}
use Rattle.std.proofs.lemmas.Grind.{common_steps}
use Rattle.std.specs.Option.{is_some}
use Rattle.std.specs.Ordering.{nat_cmp}
use Rattle.std.specs.BTreeMap.{insert_entry}
use Rattle.sq_hex.specs.Meaning.{byte_at}
use Rattle.sq_hex.proofs.ReadLemmas.{load_taken, load_more, load_all}
use Rattle.sq_hex.proofs.read.load.Goals as goal

pub returns-then-is_some-clause-value : goal.returns-then-is_some-clause-value
returns-then-is_some-clause-value c =
    let l = c.loop-index in
    let taken : is_some (byte_at l.map.entries (c.args.address + l.index)) ≡ true = cc (c.in_ok-insert.ensures.old, c.is_some.ensures) in
    sym l.invariant.rest ∙ load_taken l.map.entries c.args.address l.index c.args.bytes.now (omega arith) taken

pub loop-index-preserved : goal.loop-index-preserved
loop-index-preserved c =
    let l = c.loop-index in
    let free : is_some (byte_at l.map.entries (c.args.address + l.index)) ≡ false = cc (c.in_ok-insert.ensures.old, c.is_some.ensures) in
    let entries : c.insert.new.self.entries ≡ insert_entry nat_cmp l.map.entries (c.args.address + l.index) (get_or c.args.bytes.now l.index 0) = c.in_ok-insert.ensures.entries in
    record {
      rest = rw entries (sym (load_more l.map.entries c.args.address l.index c.args.bytes.now (omega arith) free) ∙ l.invariant.rest);
      few = grind (arith, common_steps);
    }

pub returns-clause-value : goal.returns-clause-value
returns-clause-value c =
    let l = c.loop-index in
    sym l.invariant.rest ∙ load_all l.map.entries c.args.address l.index c.args.bytes.now (omega arith)
