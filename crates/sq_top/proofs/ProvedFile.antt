-- What the replay of a certificate shows of two files.
use Rattle.std.proofs.Common.{◌≡◌, ◌≢◌, ◌⊎◌, ℕ, ◌<◌, List, length, inl, inr, refl, sym, ap, ◌∙◌, subst}
use Rattle.std.specs.List.{AllByRecursion}
use Rattle.sq_num.specs.declared.refusal.Refusal.{Refusal}
use Rattle.sq_num.specs.declared.refusal.Denied.{Denied}
use Rattle.sq_num.specs.declared.refusal.Denied.TheVariants.{Refused, Memory}
use Rattle.sq_graph.specs.Graph.{Graph}
use Rattle.sq_graph.specs.Rules.{IsGraph}
use Rattle.sq_graph.specs.Slotted.{IsSlotted}
use Rattle.law_program.specs.FilePrograms.{IsRefusalOf, IsAcceptedFile}
use Rattle.sq_write.specs.Written.{written}
use Rattle.sq_lifted.specs.LiftedFiles.{IsLiftedFile, FitsFile}
use Rattle.sq_lifted.proofs.Accepting.{not_refused}
use Rattle.sq_lifted.proofs.OneReading.{lifted_one}
use Rattle.sq_cert.specs.declared.read.Reading.{Reading}
use Rattle.sq_cert.specs.declared.step.Step.{Step}
use Rattle.sq_cert.specs.Steps.{HasForm}
use Rattle.sq_cert.specs.Texts.{text_of}
use Rattle.sq_num.specs.declared.packed.Packed.{Packed}
use Rattle.std.specs.List.{All}
use Rattle.sq_cert.specs.Readings.{reading_of}
use Rattle.sq_cert.proofs.RoundTrip.{text_found}
use Rattle.sq_drive.specs.Checking.{Leads, IsFirstFault}
use Rattle.sq_drive.specs.Replay.{IsReplay}
use Rattle.sq_drive.specs.Replaying.{IsLess}
use Rattle.sq_drive.proofs.OneReplay.{one_replay}
use Rattle.sq_top.specs.Packing.{CanBeWritten, Packs}
use Rattle.sq_top.specs.Proving.{Proves, FailsToProve, IsProved, IsRefusalOfEither, PacksProved}
use Rattle.sq_top.proofs.LighterFile.{lighter_fits, lighter_is_same, loads_less}

-- a text leads to one graph
one_leads : (text : List ℕ) (old a b : Graph) (m n : ℕ) → Leads text old a m → Leads text old b n → a ≡ b
one_leads text old a b m n p q =
    let found = λ (new : Graph) (count : ℕ) (l : Leads text old new count). ap (λ (r : Reading). r.cert) (ap reading_of l.text_is ∙ text_found l.steps l.form) in
    let same : p.steps ≡ q.steps = sym (found a m p) ∙ found b n q in
    one_replay q.steps old a b (subst (λ steps. IsReplay steps old a) same p.replay) q.replay

module _ (given output cert : List ℕ) (first : Graph) (fit : AllByRecursion (λ b. b < 256) given) (lifted : IsLiftedFile given first) (slotted : IsSlotted first) where
  pub proves : (last : Graph) (count : ℕ) → Leads cert first last count → output ≡ written given last → Proves given output cert count
  proves last count leads is = record { first = first; lifted = lifted; slotted = slotted; last = last; leads = leads; output_is = is }

  pub fails_at : (line : ℕ) → IsFirstFault cert first line → FailsToProve given output cert line
  fails_at line fault = record { first = first; lifted = lifted; slotted = slotted; cause = inl fault }

  pub differs : (last : Graph) (count : ℕ) → Leads cert first last count → output ≢ written given last → FailsToProve given output cert 0
  differs last count leads other =
      record { first = first; lifted = lifted; slotted = slotted; cause = inr (refl, record { last = last; count = count; leads = leads; differs = other }) }

  -- what it proves, it proves from this graph
  from_first : (count : ℕ) → (p : Proves given output cert count) → p.first ≡ first
  from_first count p = sym p.slotted ∙ lifted_one given p.first first fit p.lifted lifted ∙ slotted

  pub proves_not : ((new : Graph) (count : ℕ) → ¬ Leads cert first new count) → (count : ℕ) → ¬ Proves given output cert count
  proves_not never count p = never p.last count (subst (λ g. Leads cert g p.last count) (from_first count p) p.leads)

  -- and it is what is written of the graph to which the text leads
  pub proves_written : (last : Graph) (steps : ℕ) → Leads cert first last steps → (count : ℕ) → Proves given output cert count → output ≡ written given last
  proves_written last steps leads count p =
      let same : p.last ≡ last = one_leads cert first p.last last count steps (subst (λ g. Leads cert g p.last count) (from_first count p) p.leads) leads in
      p.output_is ∙ ap (written given) same

  pub proves_no_other : (last : Graph) (steps : ℕ) → Leads cert first last steps → output ≢ written given last → (count : ℕ) → ¬ Proves given output cert count
  proves_no_other last steps leads other count p = other (proves_written last steps leads count p)

-- a lighter graph can be written, and its file is proved
pub less_fits : (given : List ℕ) (first last : Graph) → FitsFile given first → IsLess first last → CanBeWritten given last
less_fits given first last fits less = lighter_fits given first last less.saved fits less.lighter

pub is_proved : (given output : List ℕ) (first last : Graph) → AllByRecursion (λ b. b < 256) given → IsLiftedFile given first → FitsFile given first → IsLess first last → IsGraph last → output ≡ written given last → IsProved given output
is_proved given output first last fit lifted fits less rules is =
    subst (IsProved given) (sym is) (record {
      same = lighter_is_same given first last less.saved fit lifted fits less.lighter rules;
      loads_no_more = loads_less given first last less.saved fit lifted fits less.lighter rules;
    })

-- where reading the first file fails, and where reading the second does
pub first_exact : (given output : List ℕ) (d : Denied) → ((r : Refusal) → d ≡ Refused r → IsRefusalOf given r) → ((r : Refusal) → IsRefusalOf given r → (d ≡ Refused r) ⊎ (d ≡ Memory)) → (r : Refusal) → IsRefusalOfEither given output r → (d ≡ Refused r) ⊎ (d ≡ Memory)
first_exact given output d told exact r (inl refused) = exact r refused
first_exact given output (Refused s) told exact r (inr other) = absurd (not_refused given other.0 s (told s refl))
first_exact given output Memory told exact r (inr other) = inr refl

pub second_exact : (given output : List ℕ) (d : Denied) → IsAcceptedFile given → ((r : Refusal) → IsRefusalOf output r → (d ≡ Refused r) ⊎ (d ≡ Memory)) → (r : Refusal) → IsRefusalOfEither given output r → (d ≡ Refused r) ⊎ (d ≡ Memory)
second_exact given output d accepted exact r (inl refused) = absurd (not_refused given accepted r refused)
second_exact given output d accepted exact r (inr other) = exact r other.1

-- steps that were noted prove what is written of the graph to which they lead
pub packs_proved : (given : List ℕ) (packed : Packed) (text : List ℕ) (first last : Graph) (steps : List Step) → IsLiftedFile given first → IsSlotted first → All HasForm steps → IsReplay steps first last → text ≡ text_of steps → packed.bytes ≡ written given last → Packs given packed → PacksProved given packed text
packs_proved given packed text first last steps lifted slotted form replay is output packs = record {
  packs = packs;
  count = length steps;
  proves = record {
    first = first;
    lifted = lifted;
    slotted = slotted;
    last = last;
    leads = record { steps = steps; form = form; text_is = is; replay = replay; count_is = refl };
    output_is = output;
  };
}
