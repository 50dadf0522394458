use Rattle.std.proofs.Common.{◌+◌, ◌≡◌, ◌<◌, ◌≤◌, ℕ, ⊎_elim, IsSome, cond, sym, ◌∙◌, subst, arith}
use Rattle.std.proofs.lemmas.Bool.{cases_lt}
use Rattle.tm_index.specs.Folders.{numbers_in}
use Rattle.tm_records.specs.Records.{at}
use Rattle.tm_volume_records.specs.Records.{item_key}
use Rattle.tm_base.specs.Limits.{max_items}
use Rattle.tm_volume.specs.Seen.{Seen, items_on}
use Rattle.tm_volume.specs.FreeNumbers.{AreTaken, IsUnused, counted_items}
use Rattle.tm_volume.proofs.Counting.{no_record, record_there, unused}
use Rattle.tm_volume.proofs.TakenNumbers.{all_taken}
use Rattle.tm_volume.proofs.volume.Volume.free_number.Goals as goal

pub returns-then-is_unused-clause-some : goal.returns-then-is_unused-clause-some
returns-then-is_unused-clause-some c = λ bytes.
    let m : Seen = record { image = c.self.inside.image; head = c.self.inside.head; fixed = c.self.inside.fixed; tag = record { clean = cond c.self.inside.clean 1 0; generation = c.self.inside.generation; next = c.self.inside.next }; looks = c.self.inside.looks } in
    subst (λ (s : Seen). IsUnused (items_on s bytes) c.count-hint.result) c.self.view_is
    (unused m c.count-hint.result c.total.ensures.sound c.if-hint-ge2.true c.if-hint-le-MAX_ITEMS.true (no_record (at (item_key c.count-hint.result) c.self.inside.image.records) (sym c.is_unused.ensures ∙ c.if-is_unused.true)) bytes)

pub returns-then-is_unused-2-clause-some : goal.returns-then-is_unused-2-clause-some
returns-then-is_unused-2-clause-some c = λ bytes.
    let m : Seen = record { image = c.self.inside.image; head = c.self.inside.head; fixed = c.self.inside.fixed; tag = record { clean = cond c.self.inside.clean 1 0; generation = c.self.inside.generation; next = c.self.inside.next }; looks = c.self.inside.looks } in
    subst (λ (s : Seen). IsUnused (items_on s bytes) c.loop-number.number) c.self.view_is
    (unused m c.loop-number.number c.total.ensures.sound c.loop-number.auto.number (omega arith) (no_record (at (item_key c.loop-number.number) c.self.inside.image.records) (sym c.is_unused-in-loop-number.ensures ∙ c.if-is_unused-2.true)) bytes)

pub loop-number-init : goal.loop-number-init
loop-number-init c = λ n least lt. absurd (omega (arith, least, lt))

pub loop-number-preserved : goal.loop-number-preserved
loop-number-preserved c = λ n least lt. ⊎_elim
    (λ (before : n < c.loop-number.number). c.loop-number.invariant n least before)
    (λ (here : c.loop-number.number ≤ n).
    let same : c.loop-number.number ≡ n = omega (arith, here, lt) in
    subst (λ k. IsSome (at (item_key k) c.args.self.now.image.records)) same
    (subst (λ (s : Seen). IsSome (at (item_key c.loop-number.number) s.image.records)) c.self.view_is
    (record_there (at (item_key c.loop-number.number) c.self.inside.image.records) (sym c.is_unused-in-loop-number.ensures ∙ c.if-is_unused-2.false))))
    (cases_lt n c.loop-number.number)

pub returns-clause-none : goal.returns-clause-none
returns-clause-none c = λ n least most. c.loop-number.invariant n least (omega (arith, most, c.loop-number-test.false))

pub returns-clause-many : goal.returns-clause-many
returns-clause-many c =
    let m : Seen = record { image = c.self.inside.image; head = c.self.inside.head; fixed = c.self.inside.fixed; tag = record { clean = cond c.self.inside.clean 1 0; generation = c.self.inside.generation; next = c.self.inside.next }; looks = c.self.inside.looks } in
    let taken : AreTaken c.args.self.now.image.records = λ n least most. c.loop-number.invariant n least (omega (arith, most, c.loop-number-test.false)) in
    subst (λ (s : Seen). max_items ≤ counted_items s.image.records) c.self.view_is
    (all_taken m (numbers_in c.self.inside.numbers) c.self.invariant c.total.ensures.sound.rising (subst (λ (s : Seen). AreTaken s.image.records) (sym c.self.view_is) taken))
