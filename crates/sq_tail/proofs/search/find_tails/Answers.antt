use Rattle.std.proofs.Common.{ℕ, length, sym, subst, arith}
use Rattle.std.specs.Prelude.{IfSome, MatchOption}
use Rattle.sq_finger.specs.Numbers.{NoDouble, IsFirstDouble}
use Rattle.sq_live.proofs.Layouts.{length-names}
use Rattle.sq_lookup.specs.Tables.{number_at}
use Rattle.sq_tail.specs.Numbers.{AreWords, IsMeeting}
use Rattle.sq_tail.proofs.Searching.{double_is, meeting_is, meeting_places, none_left}
use Rattle.sq_tail.proofs.search.find_tails.Goals as goal

pub returns-in-Some-clause-some : goal.returns-in-Some-clause-some
returns-in-Some-clause-some c =
    let g = c.args.graph.now.graph in
    let names = c.args.names.now in
    let found : IsFirstDouble c.in_ok-twos.twos.items (c.in-Some.i, c.in-Some.j) =
    subst (λ ns. IsFirstDouble ns (c.in-Some.i, c.in-Some.j)) c.deref-3.ensures.value (subst (λ o. MatchOption o (NoDouble c.deref-3.result.now) (IsFirstDouble c.deref-3.result.now)) c.in-Some.is c.in_ok-i.ensures) in
    let double = found.double in
    double_is g names c.learn.ensures.rules c.requires c.in_ok-twos.twos.items c.in_ok-twos.ensures c.in-Some.j c.in-Some.i double.1.0 (λ e. omega (arith, double.0, e)) double.1.1.1 double.1.1.0

pub offset_bounds-names-i-in-Some-meeting : goal.offset_bounds-names-i-in-Some-meeting
offset_bounds-names-i-in-Some-meeting c =
    let g = c.args.graph.now.graph in
    let names = c.args.names.now in
    let ones = c.in_ok-ones.ones.items in
    let at = number_at c.in_ok-places.places in
    let words : AreWords g names c.in_ok-ones.ones.items (length names) (number_at c.in_ok-places.places) = subst (λ ns. AreWords g names ns (length names) at) c.deref-4.ensures.value c.in_ok-places.ensures in
    let meets : IsMeeting c.in_ok-ones.ones.items (number_at c.in_ok-places.places) c.in-Some-meeting.i c.in-Some-meeting.j =
    subst (λ ns. IsMeeting ns at c.in-Some-meeting.i c.in-Some-meeting.j) c.deref-5.ensures.value (subst (λ o. IfSome o (λ pair. IsMeeting c.deref-5.result.now at pair.0 pair.1)) c.in-Some-meeting.is c.meeting.ensures.some) in
    let places = meeting_places g names c.learn.ensures.rules c.requires ones at (length names) c.in_ok-ones.ensures words c.in-Some-meeting.i c.in-Some-meeting.j meets in
    omega (arith, places.0, length-names g names c.requires, c.learn.ensures.small.blocks)

pub bounds-names-i-in-Some-meeting : goal.bounds-names-i-in-Some-meeting
bounds-names-i-in-Some-meeting c =
    let g = c.args.graph.now.graph in
    let names = c.args.names.now in
    let ones = c.in_ok-ones.ones.items in
    let at = number_at c.in_ok-places.places in
    let words : AreWords g names c.in_ok-ones.ones.items (length names) (number_at c.in_ok-places.places) = subst (λ ns. AreWords g names ns (length names) at) c.deref-4.ensures.value c.in_ok-places.ensures in
    let meets : IsMeeting c.in_ok-ones.ones.items (number_at c.in_ok-places.places) c.in-Some-meeting.i c.in-Some-meeting.j =
    subst (λ ns. IsMeeting ns at c.in-Some-meeting.i c.in-Some-meeting.j) c.deref-5.ensures.value (subst (λ o. IfSome o (λ pair. IsMeeting c.deref-5.result.now at pair.0 pair.1)) c.in-Some-meeting.is c.meeting.ensures.some) in
    let places = meeting_places g names c.learn.ensures.rules c.requires ones at (length names) c.in_ok-ones.ensures words c.in-Some-meeting.i c.in-Some-meeting.j meets in
    places.0

pub offset_bounds-names-j-in-Some-meeting : goal.offset_bounds-names-j-in-Some-meeting
offset_bounds-names-j-in-Some-meeting c =
    let g = c.args.graph.now.graph in
    let names = c.args.names.now in
    let ones = c.in_ok-ones.ones.items in
    let at = number_at c.in_ok-places.places in
    let words : AreWords g names c.in_ok-ones.ones.items (length names) (number_at c.in_ok-places.places) = subst (λ ns. AreWords g names ns (length names) at) c.deref-4.ensures.value c.in_ok-places.ensures in
    let meets : IsMeeting c.in_ok-ones.ones.items (number_at c.in_ok-places.places) c.in-Some-meeting.i c.in-Some-meeting.j =
    subst (λ ns. IsMeeting ns at c.in-Some-meeting.i c.in-Some-meeting.j) c.deref-5.ensures.value (subst (λ o. IfSome o (λ pair. IsMeeting c.deref-5.result.now at pair.0 pair.1)) c.in-Some-meeting.is c.meeting.ensures.some) in
    let places = meeting_places g names c.learn.ensures.rules c.requires ones at (length names) c.in_ok-ones.ensures words c.in-Some-meeting.i c.in-Some-meeting.j meets in
    omega (arith, places.1, length-names g names c.requires, c.learn.ensures.small.blocks)

pub bounds-names-j-in-Some-meeting : goal.bounds-names-j-in-Some-meeting
bounds-names-j-in-Some-meeting c =
    let g = c.args.graph.now.graph in
    let names = c.args.names.now in
    let ones = c.in_ok-ones.ones.items in
    let at = number_at c.in_ok-places.places in
    let words : AreWords g names c.in_ok-ones.ones.items (length names) (number_at c.in_ok-places.places) = subst (λ ns. AreWords g names ns (length names) at) c.deref-4.ensures.value c.in_ok-places.ensures in
    let meets : IsMeeting c.in_ok-ones.ones.items (number_at c.in_ok-places.places) c.in-Some-meeting.i c.in-Some-meeting.j =
    subst (λ ns. IsMeeting ns at c.in-Some-meeting.i c.in-Some-meeting.j) c.deref-5.ensures.value (subst (λ o. IfSome o (λ pair. IsMeeting c.deref-5.result.now at pair.0 pair.1)) c.in-Some-meeting.is c.meeting.ensures.some) in
    let places = meeting_places g names c.learn.ensures.rules c.requires ones at (length names) c.in_ok-ones.ensures words c.in-Some-meeting.i c.in-Some-meeting.j meets in
    places.1

pub returns-in-Some-meeting-clause-some : goal.returns-in-Some-meeting-clause-some
returns-in-Some-meeting-clause-some c =
    let g = c.args.graph.now.graph in
    let names = c.args.names.now in
    let ones = c.in_ok-ones.ones.items in
    let at = number_at c.in_ok-places.places in
    let words : AreWords g names c.in_ok-ones.ones.items (length names) (number_at c.in_ok-places.places) = subst (λ ns. AreWords g names ns (length names) at) c.deref-4.ensures.value c.in_ok-places.ensures in
    let meets : IsMeeting c.in_ok-ones.ones.items (number_at c.in_ok-places.places) c.in-Some-meeting.i c.in-Some-meeting.j =
    subst (λ ns. IsMeeting ns at c.in-Some-meeting.i c.in-Some-meeting.j) c.deref-5.ensures.value (subst (λ o. IfSome o (λ pair. IsMeeting c.deref-5.result.now at pair.0 pair.1)) c.in-Some-meeting.is c.meeting.ensures.some) in
    meeting_is g names c.learn.ensures.rules c.requires ones at (length names) c.in_ok-ones.ensures words c.in-Some-meeting.i c.in-Some-meeting.j meets

pub returns-clause-none : goal.returns-clause-none
returns-clause-none c =
    let g = c.args.graph.now.graph in
    let names = c.args.names.now in
    let ones = c.in_ok-ones.ones.items in
    let at = number_at c.in_ok-places.places in
    let words : AreWords g names c.in_ok-ones.ones.items (length names) (number_at c.in_ok-places.places) = subst (λ ns. AreWords g names ns (length names) at) c.deref-4.ensures.value c.in_ok-places.ensures in
    let no_double : NoDouble c.in_ok-twos.twos.items =
    subst (λ ns. NoDouble ns) c.deref-3.ensures.value (subst (λ o. MatchOption o (NoDouble c.deref-3.result.now) (IsFirstDouble c.deref-3.result.now)) c.in_default.is c.in_ok-i.ensures) in
    let no_meeting : (i j : ℕ) → ¬ IsMeeting c.in_ok-ones.ones.items (number_at c.in_ok-places.places) i j =
    λ i j meeting. c.meeting.ensures.none c.in-None.is i j (subst (λ ns. IsMeeting ns at i j) (sym c.deref-5.ensures.value) meeting) in
    λ e dropped kept pair. none_left g names c.learn.ensures.rules c.requires ones c.in_ok-twos.twos.items at c.in_ok-ones.ensures c.in_ok-twos.ensures words no_double no_meeting dropped kept pair
