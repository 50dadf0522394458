use Rattle.std.proofs.Common.{◌≡◌, ◌∙◌, map, ap, sym, not, rules}
use Rattle.std.specs.Map.Iter.{deref_pair}
use Rattle.std.proofs.lemmas.Map.Iter.{iter_end}
use Rattle.tm_records.specs.Records.{Records}
use Rattle.tm_table.specs.Text.{table_text}
use Rattle.tm_table.proofs.Writing.{without_keys, table-none, table-kept, table-skipped}
use Rattle.tm_table.proofs.Leaving.{without-left}
use Rattle.tm_table.proofs.encoding.encode.Goals as goal

pub loop-key-init : goal.loop-key-init
loop-key-init c = table-none c.args.left_out.now _ c.new-text.ensures.items

pub loop-key-preserved : goal.loop-key-preserved
loop-key-preserved c = table-kept c.args.left_out.now c.loop-key.yielded (c.in-Some.key, c.in-Some.record) _ _ c.loop-key.invariant (ap not (sym c.is_among.ensures ∙ c.if-is_among.false)) c.in_ok-push_record.ensures

pub loop-key-preserved-then-is_among : goal.loop-key-preserved-then-is_among
loop-key-preserved-then-is_among c = table-skipped c.args.left_out.now c.loop-key.yielded (c.in-Some.key, c.in-Some.record) _ c.loop-key.invariant (ap not (sym c.is_among.ensures ∙ c.if-is_among.true))

pub returns : goal.returns
returns c =
    let e : map deref_pair c.loop-key.yielded ≡ c.args.records.now.entries = search (rules, iter_end) in
    c.loop-key.invariant ∙ ap (λ (es : Records). table_text (without_keys c.args.left_out.now es)) e ∙ sym (ap table_text (without-left c.args.left_out.now c.args.records.now.entries (search rules)))
