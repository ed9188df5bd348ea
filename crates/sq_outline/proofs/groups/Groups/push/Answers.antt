use Rattle.std.proofs.Common.{◌∙◌, arith}
use Rattle.sq_finger.proofs.Grouping.{kept_below, kept_push}
use Rattle.sq_outline.proofs.groups.Groups.push.Goals as goal

pub index_mut-requires : goal.index_mut-requires
index_mut-requires c = let ok = c.self.inside.groups.ok in let h = kept_below (λ v. v.items) c.args.group c.self.inside.groups.items c.args.self.now (c.self.view_is ∙ c.in_ok-grow.ensures) in omega arith

pub returns : goal.returns
returns c =
    kept_push (λ v. v.items) c.args.group c.args.member c.self.inside.groups.items c.index_mut.result.now c.push.new.self c.args.self.now
    (c.self.view_is ∙ c.in_ok-grow.ensures) c.index_mut.ensures.value c.in_ok-push.ensures.items
