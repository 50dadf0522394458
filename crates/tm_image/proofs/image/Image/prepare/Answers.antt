use Rattle.std.proofs.Common.{◌≡◌, ◌≤◌, ◌<◌, ◌+◌, ◌-◌, ◌∙◌, ℕ, List, length, Err, ap, sym, subst, refl, arith}
use Rattle.std.specs.List.{sum, sum_by, All}
use Rattle.std.specs.Map.{keys_of, values_of}
use Rattle.tm_blockmap.specs.Counts.{times}
use Rattle.tm_blockmap.proofs.Counting.{hit}
use Rattle.tm_image.specs.Content.{in_data}
use Rattle.tm_records.specs.Records.{Records}
use Rattle.tm_records.specs.Puts.{brought, with_puts}
use Rattle.tm_records.specs.Removes.{without}
use Rattle.tm_records.specs.declared.record.Put.{Put}
use Rattle.tm_table.specs.Text.{table_text}
use Rattle.tm_image.specs.Layout.{blocks_for}
use Rattle.tm_image.specs.Reads.{data_len}
use Rattle.tm_image.specs.Seen.{Seen, IsKept, staged}
use Rattle.tm_image.specs.Room.{need_of, table_len}
use Rattle.tm_image.specs.Commit.{IsPut, changed, released_len}
use Rattle.tm_image.specs.declared.error.ImageError.TheVariants.{Full}
use Rattle.tm_image.proofs.Keeping.{keys_with, keys_without, kept_with, kept_without, metas_of}
use Rattle.tm_image.proofs.Preparing.{Balance, balance_then, released_is, few, sound_after, ready, covered_by}
use Rattle.tm_image.proofs.image.Image.prepare.Goals as goal

-- the puts keep the rules of the records that stand
puts_are : (m s : Seen) (es : Records) (puts : List Put) → m ≡ s → es ≡ m.records → All (IsPut s.records) puts → All (IsPut es) puts
puts_are m s es puts view is all = subst (λ (rs : Records). All (IsPut rs) puts) (sym (is ∙ ap (λ (t : Seen). t.records) view)) all

each_with : (es : Records) (puts : List Put) → All (IsPut es) puts → All IsKept (values_of es) → All IsKept (values_of (with_puts puts es))
each_with es puts all kept = kept_with puts es (λ k d lt. (all k d lt).can) (λ k d lt. (all k d lt).meta) (λ k d lt. (all k d lt).filled) kept

stage_of : (m s : Seen) (puts : List Put) → m ≡ s → ((b : ℕ) → sum_by (λ (p : Put). times b (brought p.body)) puts ≤ staged b s) → (b : ℕ) → sum_by (λ (p : Put). times b (brought p.body)) puts ≤ staged b m
stage_of m s puts view stage = λ b. subst (λ (t : Seen). sum_by (λ (p : Put). times b (brought p.body)) puts ≤ staged b t) (sym view) (stage b)

pub put_all-requires-clause-can : goal.put_all-requires-clause-can
put_all-requires-clause-can c = λ k d lt. (puts_are _ c.args.self.now c.self.inside.records.entries c.args.changes.put.items c.self.view_is refl c.requires.put k d lt).can

pub plan-requires-clause-metas : goal.plan-requires-clause-metas
plan-requires-clause-metas c =
    let puts = puts_are _ c.args.self.now c.self.inside.records.entries c.args.changes.put.items c.self.view_is refl c.requires.put in
    metas_of c.put_all.new.records.entries (subst (λ (es : Records). All IsKept (values_of es)) (sym c.in_ok-put_all.ensures.ok) (each_with c.self.inside.records.entries c.args.changes.put.items puts c.self.invariant.each))

pub plan-requires-clause-small : goal.plan-requires-clause-small
plan-requires-clause-small c =
    let small = few _ c.self.invariant c.put_all.new.records.entries c.put_all.new.log.items c.args.changes.put.items c.in_ok-put_all.ensures.balance (stage_of _ c.args.self.now c.args.changes.put.items c.self.view_is c.requires.staged) in
    omega (arith, small, c.len-3.ensures, c.self.inside.table.ok, ap released_len c.deref-2.ensures.value)

-- the records after the removals
new_is : (c : goal.After-drop-remove-in-Ok) → c.remove_all.new.records.entries ≡ changed c.args.changes.remove.items c.args.changes.put.items c.self.inside.records.entries
new_is c = c.remove_all.ensures.records ∙ ap (λ ks. without ks c.put_all.new.records.entries) c.deref-in-Ok.ensures.value ∙ ap (without c.args.changes.remove.items) c.in_ok-put_all.ensures.ok

planned_is : (c : goal.After-drop-remove-in-Ok) → without c.deref.result.now c.put_all.new.records.entries ≡ c.remove_all.new.records.entries
planned_is c = ap (λ ks. without ks c.put_all.new.records.entries) (c.deref.ensures.value ∙ sym c.deref-in-Ok.ensures.value) ∙ sym c.remove_all.ensures.records

balance_of : (c : goal.After-drop-remove-in-Ok) → Balance c.self.inside.records.entries c.remove_all.new.records.entries c.remove_all.new.log.items c.args.changes.put.items
balance_of c = balance_then c.self.inside.records.entries c.put_all.new.records.entries c.remove_all.new.records.entries c.put_all.new.log.items c.remove_all.new.log.items c.args.changes.put.items c.in_ok-put_all.ensures.balance c.remove_all.ensures.balance

keys_are : (c : goal.After-drop-remove-in-Ok) → All (λ k. k < 18446744073709551616) (keys_of c.remove_all.new.records.entries)
keys_are c =
    let puts = puts_are _ c.args.self.now c.self.inside.records.entries c.args.changes.put.items c.self.view_is refl c.requires.put in
    subst (λ (es : Records). All (λ k. k < 18446744073709551616) (keys_of es)) (sym (new_is c)) (keys_without c.args.changes.remove.items (with_puts c.args.changes.put.items c.self.inside.records.entries)
    (keys_with c.args.changes.put.items c.self.inside.records.entries (λ k d lt. (puts k d lt).key) c.self.invariant.keys))

each_are : (c : goal.After-drop-remove-in-Ok) → All IsKept (values_of c.remove_all.new.records.entries)
each_are c =
    let puts = puts_are _ c.args.self.now c.self.inside.records.entries c.args.changes.put.items c.self.view_is refl c.requires.put in
    subst (λ (es : Records). All IsKept (values_of es)) (sym (new_is c)) (kept_without c.args.changes.remove.items (with_puts c.args.changes.put.items c.self.inside.records.entries)
    (each_with c.self.inside.records.entries c.args.changes.put.items puts c.self.invariant.each))

pub invariant_of-self-in-Ok : goal.invariant_of-self-in-Ok
invariant_of-self-in-Ok c =
    sound_after _ c.self.invariant c.remove_all.new.records.entries c.remove_all.new.log.items c.args.changes.put.items (balance_of c) (stage_of _ c.args.self.now c.args.changes.put.items c.self.view_is c.requires.staged)
    c.in-Ok.text.items c.in-Ok.blocks.items c.plan.new.map c.in-Ok.ensures.used c.in-Ok.ensures.marks c.in-Ok.ensures.size
    (c.remove_all.ensures.ordered (c.in_ok-put_all.ensures.ordered c.self.invariant.rising)) (keys_are c) (each_are c)

-- what the plan reckons as released
reckoned : (c : goal.After-drop-remove-in-Ok) → released_len c.deref-2.result.now + data_len c.put_all.new.records.entries - data_len (without c.deref.result.now c.put_all.new.records.entries) ≡ released_len c.remove_all.new.log.items
reckoned c = omega (
  arith,
  ap released_len c.deref-2.ensures.value,
  ap data_len (planned_is c),
  released_is c.self.inside.records.entries c.put_all.new.records.entries c.put_all.new.log.items c.args.changes.put.items c.in_ok-put_all.ensures.balance,
  released_is c.self.inside.records.entries c.remove_all.new.records.entries c.remove_all.new.log.items c.args.changes.put.items (balance_of c),
)

pub returns-in-Ok-clause-ready : goal.returns-in-Ok-clause-ready
returns-in-Ok-clause-ready c =
    let room : need_of (length c.self.inside.table.items) (length c.in-Ok.blocks.items) (released_len c.remove_all.new.log.items) + sum c.self.inside.map ≤ length c.self.inside.map
    = omega (arith, c.in-Ok.ensures.room, c.len-3.ensures, c.self.inside.table.ok, reckoned c) in
    ready _ c.self.invariant c.remove_all.new.records.entries c.remove_all.new.log.items c.args.changes.put.items (balance_of c) (stage_of _ c.args.self.now c.args.changes.put.items c.self.view_is c.requires.staged)
    c.in-Ok.text.items c.in-Ok.blocks.items c.plan.new.map c.in-Ok.ensures.used
    (c.in-Ok.ensures.text ∙ ap table_text (planned_is c))
    (λ e. c.requires.some (sym (new_is c ∙ ap (λ (s : Seen). changed c.args.changes.remove.items c.args.changes.put.items s.records) c.self.view_is) ∙ e))
    c.in-Ok.ensures.many room c.in-Ok.ensures.count c.in-Ok.ensures.size

pub returns-in-Ok-clause-covered : goal.returns-in-Ok-clause-covered
returns-in-Ok-clause-covered c =
    covered_by c.args.self.now _ c.remove_all.new.records.entries c.remove_all.new.log.items c.args.changes.put.items
    (subst (λ (s : Seen). Balance s.records c.remove_all.new.records.entries c.remove_all.new.log.items c.args.changes.put.items) c.self.view_is (balance_of c)) refl (ap (λ (s : Seen). s.layout) c.self.view_is) (c.in-Ok.ensures.size ∙ ap (λ (s : Seen). length s.used) c.self.view_is)

pub returns-in-Ok-clause-fits : goal.returns-in-Ok-clause-fits
returns-in-Ok-clause-fits c =
    let records = new_is c ∙ ap (λ (s : Seen). changed c.args.changes.remove.items c.args.changes.put.items s.records) c.self.view_is in
    let t : length c.self.inside.table.items ≡ table_len c.args.self.now.records = c.self.invariant.many ∙ ap blocks_for (ap (λ (s : Seen). s.root.table_len) c.self.view_is ∙ c.requires.settled) in
    let t2 : length c.in-Ok.blocks.items ≡ table_len (changed c.args.changes.remove.items c.args.changes.put.items c.args.self.now.records) = c.in-Ok.ensures.many ∙ ap (λ ts. blocks_for (length ts)) (c.in-Ok.ensures.text ∙ ap table_text (planned_is c ∙ records)) in
    let r = released_is c.self.inside.records.entries c.remove_all.new.records.entries c.remove_all.new.log.items c.args.changes.put.items (balance_of c) in
    omega (arith, c.in-Ok.ensures.room, c.len-3.ensures, c.self.inside.table.ok, reckoned c, t, t2, r, ap data_len records, ap (λ (s : Seen). data_len s.records) c.self.view_is, ap (λ (s : Seen). length s.used) c.self.view_is, ap (λ (s : Seen). sum s.used) c.self.view_is)

pub returns-clause-full : goal.returns-clause-full
returns-clause-full c = λ need free is.
    let same : c.in-Err.error ≡ Full need free = cc in
    let f = c.in-Err.ensures.full need free (ap (λ e. Err e) same) in
    let records : without c.deref.result.now c.put_all.new.records.entries ≡ changed c.args.changes.remove.items c.args.changes.put.items c.args.self.now.records
    = ap (λ ks. without ks c.put_all.new.records.entries) c.deref.ensures.value ∙ ap (without c.args.changes.remove.items) c.in_ok-put_all.ensures.ok ∙ ap (λ (s : Seen). changed c.args.changes.remove.items c.args.changes.put.items s.records) c.self.view_is in
    let t : length c.self.inside.table.items ≡ table_len c.args.self.now.records = c.self.invariant.many ∙ ap blocks_for (ap (λ (s : Seen). s.root.table_len) c.self.view_is ∙ c.requires.settled) in
    let r = released_is c.self.inside.records.entries c.put_all.new.records.entries c.put_all.new.log.items c.args.changes.put.items c.in_ok-put_all.ensures.balance in (
      f.0,
      omega (arith, f.1, ap (λ (s : Seen). length s.used) c.self.view_is, ap (λ (s : Seen). sum s.used) c.self.view_is),
      omega (arith, f.2, c.len-3.ensures, c.self.inside.table.ok, ap released_len c.deref-2.ensures.value, t, r, ap table_len records, ap data_len records, ap (λ (s : Seen). data_len s.records) c.self.view_is),
    )

pub returns-in-Ok-clause-balance : goal.returns-in-Ok-clause-balance
returns-in-Ok-clause-balance c = λ b. omega (arith, balance_of c (λ x. hit x b), ap (λ (s : Seen). in_data b s.records) c.self.view_is)

pub returns-in-Ok-clause-balance_len : goal.returns-in-Ok-clause-balance_len
returns-in-Ok-clause-balance_len c = omega (arith, released_is c.self.inside.records.entries c.remove_all.new.records.entries c.remove_all.new.log.items c.args.changes.put.items (balance_of c), ap (λ (s : Seen). data_len s.records) c.self.view_is)
