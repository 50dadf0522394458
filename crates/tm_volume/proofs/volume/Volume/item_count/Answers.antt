use Rattle.std.proofs.Common.{◌≡◌, ◌+◌, ◌-◌, length, cond, sym, ap, ◌∙◌, subst}
use Rattle.tm_index.specs.Folders.{numbers_in}
use Rattle.tm_records.specs.Records.{at}
use Rattle.tm_volume_records.specs.Records.{journal_key}
use Rattle.tm_volume_records.specs.Rules.{IsGoodVolume}
use Rattle.tm_volume.specs.FreeNumbers.{counted_items}
use Rattle.tm_volume.specs.Seen.{Seen, entries_on, tree_on}
use Rattle.tm_volume.proofs.Counting.{known_on, counted, one_journal, no_journal}
use Rattle.tm_volume.proofs.volume.Volume.item_count.Goals as goal
use Rattle.tm_volume.proofs.volume.Volume.item_count.Goals.{in-Some, in-None}

pub returns-clause-tree : goal.returns-clause-tree
returns-clause-tree c = λ bytes good.
    let m : Seen = record { image = c.self.inside.image; head = c.self.inside.head; fixed = c.self.inside.fixed; tag = record { clean = cond c.self.inside.clean 1 0; generation = c.self.inside.generation; next = c.self.inside.next }; looks = c.self.inside.looks } in
    let known = known_on m (numbers_in c.self.inside.numbers) c.self.invariant c.total.ensures.sound bytes (subst (λ (s : Seen). IsGoodVolume (entries_on s bytes) s.tag) (sym c.self.view_is) good) in
    let h = c.saturating_sub.ensures in
    let k = c.count.ensures in
    subst (λ (s : Seen). c.saturating_sub.result ≡ length (tree_on s bytes)) c.self.view_is
    (elim c.match-length.branch [
      | in-Some w ↦ h ∙ (λ i. k i - (1 + c.match-length.journal)) ∙ counted m bytes known c.match-length.journal (w.journal-is ∙ one_journal (at journal_key c.self.inside.image.records) w.in-Some.field-0 (sym w.in-Some.is ∙ c.length.ensures))
      | in-None w ↦ h ∙ (λ i. k i - (1 + c.match-length.journal)) ∙ counted m bytes known c.match-length.journal (w.journal-is ∙ no_journal (at journal_key c.self.inside.image.records) (sym w.in-None.is ∙ c.length.ensures))
    ])

pub returns-clause-records : goal.returns-clause-records
returns-clause-records c =
    let h = c.saturating_sub.ensures in
    let k = c.count.ensures in
    subst (λ (s : Seen). c.saturating_sub.result ≡ counted_items s.image.records) c.self.view_is
    (elim c.match-length.branch [
      | in-Some w ↦ h ∙ (λ i. k i - (1 + c.match-length.journal)) ∙ ap (λ j. length c.self.inside.image.records - (1 + j)) (w.journal-is ∙ one_journal (at journal_key c.self.inside.image.records) w.in-Some.field-0 (sym w.in-Some.is ∙ c.length.ensures))
      | in-None w ↦ h ∙ (λ i. k i - (1 + c.match-length.journal)) ∙ ap (λ j. length c.self.inside.image.records - (1 + j)) (w.journal-is ∙ no_journal (at journal_key c.self.inside.image.records) (sym w.in-None.is ∙ c.length.ensures))
    ])
