use Rattle.std.proofs.Common.{◌≡◌, rules}
use Rattle.law_program.specs.Reached.{target_from}
use Rattle.sq_tagged.specs.Views.{setting_of, half_in}
use Rattle.sq_monitor.specs.Views.{watched_of}
use Rattle.sq_monitor.proofs.Items.{by_row}
use Rattle.sq_monitor.proofs.QuietSteps.{quiet}
use Rattle.sq_monitor.proofs.hart.Hart.execute.Goals as goal

pub returns-in-Branch-clause-ok : goal.returns-in-Branch-clause-ok
returns-in-Branch-clause-ok c =
    let e : c.target_from-target.result ≡ target_from c.args.at c.in-Branch.offset = search rules in
    rw c.in-Branch.is (quiet _ _ _ _ _ (rw e at c.branch-self.ensures))

pub returns-in-Lui : goal.returns-in-Lui
returns-in-Lui c = record {
  ok = rw (by_row c.args.insn.now c.in-Lui.is (setting_of c.args.setting.now) c.args.at (half_in c.args.half) (watched_of c.args.self.now).core) c.item.ensures.ok;
  state_kept = c.item.ensures.state_kept;
  log_kept = c.item.ensures.log_kept;
}
