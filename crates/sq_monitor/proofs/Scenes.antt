-- The setting of a program's text.
use Rattle.std.proofs.Common.{◌≡◌, ◌&&◌, nat_le, nat_lt}
use Rattle.law_program.specs.Programs.{Text, end_of}
use Rattle.law_program.specs.Monitored.{setting_of as text_setting}
use Rattle.sq_tagged.specs.Views.{layout_of, setting_of}
use Rattle.sq_tagged.specs.declared.setting.Setting.{Setting as RustSetting}

-- where the range of text is that of the program's
pub setting_is : (s : RustSetting) (t : Text) → s.lo ≡ t.lo → s.hi ≡ end_of t → setting_of s ≡ text_setting (layout_of s) t
unfolding setting_of
setting_is s t lo hi = λ i. record { world = layout_of s; lo = lo i; hi = hi i; is_code = λ x. nat_le (lo i) x && nat_lt x (hi i) }
