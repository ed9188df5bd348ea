use Rattle.std.proofs.Common.{◌+◌, ◌/◌, ◌^◌, bit_xor, ap}
use Rattle.std.proofs.lemmas.Nat.{mul-mod_first}
use Rattle.sq_rename.proofs.walks.mixed.Goals as goal

pub returns : goal.returns
returns c = ap (λ product. bit_xor product (product / 2 ^ 32)) (mul-mod_first (c.args.print + c.args.number) 11400714819323198485 (2 ^ 64))
