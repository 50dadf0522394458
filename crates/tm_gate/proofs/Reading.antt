-- From the named slot to the gate of an image.
use Rattle.std.proofs.Common.{◌≡◌, ℕ, List, sym, ◌∙◌, ap, subst}
use Rattle.tm_world.specs.declared.world.Side.{Side}
use Rattle.tm_gate.specs.Selector.{named_by, named_slot}
use Rattle.tm_gate.specs.Slot.{HasMagic}
use Rattle.tm_gate.specs.Fields.{IsBadSlot}
use Rattle.tm_gate.specs.Load.{IsUnformatted, IsBadGate}

module _ (bytes : ℕ → List ℕ) (named : ℕ) (slot : List ℕ) (selected : named_by (bytes 0) ≡ named) (holds : slot ≡ bytes named) where
  pub unformatted : (n : ℕ) → (named ≡ n) × ¬ HasMagic slot → IsUnformatted bytes n
  unformatted n lacks = record {
    selected = selected ∙ lacks.0;
    lacks = subst (λ s. ¬ HasMagic s) (holds ∙ ap bytes lacks.0) lacks.1;
  }

  pub from_unformatted : (n : ℕ) → IsUnformatted bytes n → (named ≡ n) × ¬ HasMagic slot
  from_unformatted n is =
      let same : named ≡ n = sym selected ∙ is.selected in
      (same, subst (λ s. ¬ HasMagic s) (sym (holds ∙ ap bytes same)) is.lacks)

  slot_is : slot ≡ named_slot bytes
  slot_is = holds ∙ ap bytes (sym selected)

  pub bad : (side : Side) (blocks place : ℕ) → HasMagic slot × IsBadSlot side blocks slot place → IsBadGate side blocks bytes place
  bad side blocks place is = record { formatted = subst HasMagic slot_is is.0; bad = subst (λ s. IsBadSlot side blocks s place) slot_is is.1 }

  pub from_bad : (side : Side) (blocks place : ℕ) → IsBadGate side blocks bytes place → HasMagic slot × IsBadSlot side blocks slot place
  from_bad side blocks place is = (subst HasMagic (sym slot_is) is.formatted, subst (λ s. IsBadSlot side blocks s place) (sym slot_is) is.bad)
