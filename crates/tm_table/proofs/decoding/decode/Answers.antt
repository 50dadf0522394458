use Rattle.std.proofs.Common.{◌≡◌, ◌∙◌, ◌+◌, ◌++◌, ◌∷◌, [], ℕ, None, sym, ap, subst, arith, length, drop}
use Rattle.tm_records.specs.declared.record.Record.{Record}
use Rattle.tm_records.specs.Records.{Records}
use Rattle.tm_table.specs.Text.{record_text, table_text}
use Rattle.tm_table.specs.Good.{IsRecord, AreRecords, last_key}
use Rattle.tm_table.proofs.Growing.{insert_last, are_push, last_push, length_push, text_push, no_text, no_length}
use Rattle.tm_table.proofs.decoding.decode.Goals as goal

pub loop-at-init : goal.loop-at-init
loop-at-init c =
    let none = c.new-records.ensures.empty in
    record {
      are = subst (AreRecords c.args.total None) (sym none) tt;
      before = sym (ap (last_key None) none);
      text = no_text c.new-records.result.entries c.args.text.now none;
      reaches = no_length c.new-records.result.entries none;
      within = omega arith;
    }

pub loop-at-preserved : goal.loop-at-preserved
loop-at-preserved c =
    let inv = c.loop-at.invariant in
    let es : Records = c.loop-at.records.entries in
    let e : ℕ × Record = (c.in-Ok.entry.key, c.in-Ok.entry.record) in
    let good : IsRecord c.args.total (last_key None es) e = subst (λ b. IsRecord c.args.total b e) inv.before c.in-Ok.ensures.good in
    let pushed : c.add.new.records.entries ≡ es ++ e ∷ [] = c.in_ok-add-in-Ok.ensures.ok ∙ insert_last c.args.total None es e inv.are good in
    record {
      are = subst (AreRecords c.args.total None) (sym pushed) (are_push c.args.total None es e inv.are good);
      before = sym (ap (last_key None) pushed ∙ last_push None es e);
      text = text_push es e c.args.text.now c.loop-at.at inv.reaches inv.text c.in-Ok.ensures.stands ∙ ap (λ t. t ++ drop (c.loop-at.at + length (record_text e)) c.args.text.now) (ap table_text (sym pushed))
          ∙ ap (λ j. table_text c.add.new.records.entries ++ drop j c.args.text.now) (sym c.in-Ok.ensures.end);
      reaches = omega (arith, c.in-Ok.ensures.end, inv.reaches, length_push es e, ap (λ (rs : Records). length (table_text rs)) pushed);
      within = c.in-Ok.ensures.fits.1;
    }
