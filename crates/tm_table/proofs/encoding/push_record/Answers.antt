use Rattle.std.proofs.Common.{◌∙◌, ◌++◌, ap, length, arith}
use Rattle.tm_table.specs.Text.{numbers}
use Rattle.tm_table.proofs.Writing.{record_joined}
use Rattle.tm_table.proofs.encoding.push_record.Goals as goal

pub returns : goal.returns
returns c = record_joined c.args.key _ c.args.entry.now c.args.out.now.items _ _ _ _ _ (omega (arith, ap length c.as_slice-meta.ensures, c.requires))
    c.in_ok-put_u64.ensures.ok c.in_ok-put_u32.ensures.ok (c.in_ok-extend_from_slice.ensures.items ∙ ap (λ m. c.put_u32.new.out.items ++ m) c.as_slice-meta.ensures) c.in_ok-put_u64-2.ensures.ok
    (c.in_ok-push_numbers.ensures ∙ ap (λ bs. c.put_u64-2.new.out.items ++ numbers bs) c.as_slice.ensures)
