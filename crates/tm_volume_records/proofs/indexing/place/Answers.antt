use Rattle.std.proofs.Common.{◌≡◌, ◌+◌, ℕ, List, Bool, true, false, None, Some, sym, ap, ◌∙◌}
use Rattle.std.specs.Option.{IsSome}
use Rattle.tm_index.specs.Folders.{numbers_in}
use Rattle.tm_items.specs.Index.{IsLoaded, SetsAt}
use Rattle.tm_items.specs.Places.{at_name}
use Rattle.tm_items.specs.Rules.{FollowsRules}
use Rattle.tm_volume_records.specs.Loads.{items_from}
use Rattle.tm_volume_records.proofs.Numbering.{if_ok, are_positions, skips, no_folder, too_deep, no_name, no_place, takes}
use Rattle.tm_volume_records.proofs.indexing.place.Goals as goal

pub returns-in_default-clause-kept : goal.returns-in_default-clause-kept
returns-in_default-clause-kept c = λ _ bytes loaded. skips c.args.image.now.records c.requires.sound.rising bytes c.args.positions.now c.requires.positions c.args.number c.requires.number.0 c.requires.number.1 (numbers_in c.args.numbers.now) loaded (sym c.in_default.ensures)

pub returns-then-not-is_folder-clause-broken : goal.returns-then-not-is_folder-clause-broken
returns-then-not-is_folder-clause-broken c = λ _ bytes loaded. no_folder c.args.image.now.records c.requires.sound.rising bytes c.args.positions.now c.requires.positions c.args.number c.requires.number.0 c.requires.number.1 (numbers_in c.args.numbers.now) loaded c.in-Some.position.now (sym c.in-Some.ensures) (sym c.if-not-is_folder.ensures)

pub returns-then-not-climbs-clause-broken : goal.returns-then-not-climbs-clause-broken
returns-then-not-climbs-clause-broken c = λ _ bytes loaded. too_deep c.args.image.now.records c.requires.sound.rising bytes c.args.positions.now c.requires.positions c.args.number c.requires.number.0 c.requires.number.1 (numbers_in c.args.numbers.now) loaded c.in-Some.position.now (sym c.in-Some.ensures) (sym (c.if-not-climbs.ensures (items_from c.args.image.now.records bytes) (are_positions c.args.image.now.records c.requires.sound.rising bytes c.args.positions.now c.requires.positions)))

pub returns-in-None-clause-broken : goal.returns-in-None-clause-broken
returns-in-None-clause-broken c = λ _ bytes loaded. no_name c.args.image.now.records c.requires.sound.rising bytes c.args.positions.now c.requires.positions c.args.number c.requires.number.0 c.requires.number.1 (numbers_in c.args.numbers.now) loaded c.in-Some.position.now (sym c.in-Some.ensures) c.in-None.is

pub returns-in_ok-copied-in-Some-name-clause-broken : goal.returns-in_ok-copied-in-Some-name-clause-broken
returns-in_ok-copied-in-Some-name-clause-broken c =
    let called : c.in-Some.position.now.name ≡ Some c.in_ok-copied-in-Some-name.field-0 = c.in-Some-name.is ∙ ap Some (sym c.in_ok-copied-in-Some-name.ensures) in
    let Taken : Bool → Type 0 = λ free. free ≡ false → IsSome (numbers_in c.args.numbers.now (at_name c.in-Some.position.now.parent c.in_ok-copied-in-Some-name.field-0)) in
    let Broken : Bool → Type 0 = λ good. good ≡ false → (bytes : ℕ → List ℕ) → IsLoaded (items_from c.args.image.now.records bytes) c.args.number (numbers_in c.args.numbers.now)
    → ¬ FollowsRules (items_from c.args.image.now.records bytes) c.args.number in
    if_ok c.set_free.result Taken Taken Broken
    (λ free taken _ off bytes loaded. no_place c.args.image.now.records c.requires.sound.rising bytes c.args.positions.now c.requires.positions c.args.number c.requires.number.0 c.requires.number.1 (numbers_in c.args.numbers.now) loaded c.in-Some.position.now (sym c.in-Some.ensures) c.in_ok-copied-in-Some-name.field-0 called (taken off))
    c.set_free.ensures.taken c.set_free.ensures.taken

pub returns-in_ok-copied-in-Some-name-clause-kept : goal.returns-in_ok-copied-in-Some-name-clause-kept
returns-in_ok-copied-in-Some-name-clause-kept c =
    let called : c.in-Some.position.now.name ≡ Some c.in_ok-copied-in-Some-name.field-0 = c.in-Some-name.is ∙ ap Some (sym c.in_ok-copied-in-Some-name.ensures) in
    let Free : Bool → Type 0 = λ free. free ≡ true → numbers_in c.args.numbers.now (at_name c.in-Some.position.now.parent c.in_ok-copied-in-Some-name.field-0) ≡ None in
    let Set : Bool → Type 0 = λ free. free ≡ true → SetsAt (at_name c.in-Some.position.now.parent c.in_ok-copied-in-Some-name.field-0) (Some c.args.number) (numbers_in c.args.numbers.now) (numbers_in c.set_free.new.numbers) in
    let Kept : Bool → Type 0 = λ good. good ≡ true → (bytes : ℕ → List ℕ) → IsLoaded (items_from c.args.image.now.records bytes) c.args.number (numbers_in c.args.numbers.now)
    → IsLoaded (items_from c.args.image.now.records bytes) (c.args.number + 1) (numbers_in c.set_free.new.numbers) in
    if_ok c.set_free.result Free Set Kept
    (λ good free set on bytes loaded. takes c.args.image.now.records c.requires.sound.rising bytes c.args.positions.now c.requires.positions c.args.number c.requires.number.0 c.requires.number.1 (numbers_in c.args.numbers.now) loaded c.in-Some.position.now (sym c.in-Some.ensures) c.in_ok-copied-in-Some-name.field-0 called (numbers_in c.set_free.new.numbers) (sym c.if-not-is_folder.ensures)
    (sym (c.if-not-climbs.ensures (items_from c.args.image.now.records bytes) (are_positions c.args.image.now.records c.requires.sound.rising bytes c.args.positions.now c.requires.positions))) (free on) (set on))
    c.set_free.ensures.free c.set_free.ensures.set
