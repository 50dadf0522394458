use Rattle.std.proofs.Common.{◌≡◌, ◌≤◌, true, false, length, sym, subst, ◌∙◌}
use Rattle.std.specs.List.Sorted.{IsPartitionPoint}
use Rattle.tm_journal.specs.Kept.{is_before, reaches}
use Rattle.tm_journal.proofs.Keeping.{scan_leaves, start_before_end}
use Rattle.tm_journal.proofs.kept.forget_beneath.Goals as goal

pub returns-clause-items : goal.returns-clause-items
returns-clause-items c =
    let rows = c.args.rows.now.items in
    let touch = c.args.touch.now in
    let start = c.first_from-start.result in
    let end = c.first_past-end.result in
    let low : start ≤ length rows = subst (λ l. start ≤ length l) c.deref.ensures.value c.first_from-start.ensures.within in
    let high : end ≤ length rows = subst (λ l. end ≤ length l) c.deref-2.ensures.value c.first_past-end.ensures.within in
    let first : IsPartitionPoint (λ row. is_before row touch.path ≡ true) (λ row. is_before row touch.path ≡ false) rows start =
    subst (λ l. IsPartitionPoint (λ row. is_before row touch.path ≡ true) (λ row. is_before row touch.path ≡ false) l start) c.deref.ensures.value c.first_from-start.ensures.parts in
    let past : IsPartitionPoint (λ row. reaches touch row ≡ true) (λ row. reaches touch row ≡ false) rows end =
    subst (λ l. IsPartitionPoint (λ row. reaches touch row ≡ true) (λ row. reaches touch row ≡ false) l end) c.deref-2.ensures.value c.first_past-end.ensures.parts in
    c.cut.ensures.items ∙ sym (scan_leaves touch rows start end c.requires.scan (start_before_end touch rows start end low high first past) high first past)
