use Rattle.std.proofs.Common.{◌≡◌, ◌+◌, ◌-◌, ◌*◌, ◌^◌, ap, ◌∙◌, arith, rules, to_z, of_z, w32, FitsSigned}
use Rattle.std.specs.Int.{int_shr}
use Rattle.std.proofs.lemmas.Int.{to_z-of_z}
use Rattle.std.proofs.Math.Nat.{mod-eq_of_lt}
use Rattle.sq_decode.proofs.Extending.{extended, shifted_up}
use Rattle.sq_isa.specs.Fields as field
use Rattle.sq_decode.proofs.fields.sign_extend.Goals as goal

pub returns : goal.returns
returns c =
    let n = c.args.bits in
    let v = c.args.v in
    let total : n + (32 - n) ≡ 32 = omega arith in
    let up = shifted_up n (32 - n) v c.requires.some total c.requires.within in
    let signed : c.cast_signed.result ≡ to_z w32 (v * 2 ^ (32 - n)) = c.cast_signed.ensures ∙ ap (to_z w32) (mod-eq_of_lt up) in
    let r = c.cast_signed.result in
    let shifted : int_shr r (32 - n) ≡ field.sign_extend n v =
    ap (λ z. int_shr z (32 - n)) signed ∙ extended n (32 - n) v c.requires.some total c.requires.within in
    let fits : FitsSigned w32 r = search rules in
    let fits_after : FitsSigned w32 (int_shr r (32 - n)) = search rules in
    let same : to_z w32 (of_z w32 r) ≡ r = to_z-of_z w32 r fits in
    rw same (to_z-of_z w32 (int_shr r (32 - n)) fits_after ∙ shifted)
