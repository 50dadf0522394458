use Rattle.std.proofs.Common.{◌≡◌, ◌<◌, ◌+◌, ◌^◌, ◌∙◌, ℕ, List, ◌∷◌, ◌++◌, true, false, not, length, map, rules, arith, sym, ap, subst}
use Rattle.std.specs.Map.Iter.{deref_pair}
use Rattle.std.specs.Map.{keys_of}
use Rattle.std.specs.Ordering.{nat_cmp}
use Rattle.std.specs.List.Sorted.{IsStrictlySortedBy}
use Rattle.std.proofs.lemmas.Map.Iter.{rest_more, rest_all, rest_so_far}
use Rattle.tm_records.specs.declared.record.Record.{Record}
use Rattle.tm_records.specs.Records.{Records}
use Rattle.tm_table.specs.Text.{table_text}
use Rattle.tm_table.proofs.Standing.{length-record_text}
use Rattle.tm_table.proofs.Writing.{without_keys, is_left}
use Rattle.tm_table.proofs.Leaving.{without-left}
use Rattle.tm_runs.specs.Marks.{rest, one, place}
use Rattle.tm_runs.proofs.Stretches.{table-none}
use Rattle.tm_runs.proofs.Encoding.{from_on, stands, stands_end}
use Rattle.tm_runs.proofs.Finding.{found_place, found_inside, never_end, gone_more, entry_short}
use Rattle.tm_runs.proofs.Leaving.{left_sorted, stands_left, ends_left, left_kept, left_skipped}
use Rattle.tm_runs.proofs.after.holder_after.Goals as goal

pub loop-key-init : goal.loop-key-init
loop-key-init c = record { gone = omega (arith, ap length table-none) }

pub record_len-count-requires : goal.record_len-count-requires
record_len-count-requires c =
    let es : Records = c.args.records.now.entries in
    let keys : List ℕ = c.args.left_out.now in
    let ys : Records = map deref_pair c.loop-key.yielded in
    let s : IsStrictlySortedBy nat_cmp (keys_of es) = search rules in
    let between : c.range-key-items.result ≡ from_on c.args.from.key es = c.range-key-items.ensures.between tt in
    let so_far : c.into_iter-key-iterator.result ≡ ys ++ c.loop-key.key-iterator = rest_so_far deref_pair c.loop-key.yielded _ _ c.loop-key.yielded_by in
    let e : ℕ × Record = (c.in-Some.key.now, c.in-Some.record.now) in
    let step : c.loop-key.key-iterator ≡ e ∷ c.next.new.self = rest_more deref_pair _ _ _ (c.in-Some.key, c.in-Some.record) c.in-Some.is c.next.ensures.steps in
    let is : rest c.args.from.key es ≡ ys ++ (e ∷ c.next.new.self) = stands c.args.from.key es c.range-key-items.result c.into_iter-key-iterator.result ys c.loop-key.key-iterator c.next.new.self e s between c.into_iter-key-iterator.ensures.into_iter_gives so_far step in
    let stays : is_left keys e ≡ true = ap not (sym c.is_among.ensures ∙ c.if-is_among.false) in
    let left_is : rest c.args.from.key (without_keys keys es) ≡ without_keys keys ys ++ (e ∷ without_keys keys c.next.new.self) = stands_left keys c.args.from.key es ys c.next.new.self e s is stays in
    let small : length (table_text (without_keys keys es)) < 2 ^ 63 = subst (λ rs. length (table_text rs) < 2 ^ 63) (without-left keys es s) c.requires.small in
    omega (arith, entry_short c.args.from.key (without_keys keys es) (without_keys keys ys) (without_keys keys c.next.new.self) e left_is, length-record_text e, small)

pub returns-then-left-count-clause-place : goal.returns-then-left-count-clause-place
returns-then-left-count-clause-place c =
    let es : Records = c.args.records.now.entries in
    let keys : List ℕ = c.args.left_out.now in
    let ys : Records = map deref_pair c.loop-key.yielded in
    let s : IsStrictlySortedBy nat_cmp (keys_of es) = search rules in
    let between : c.range-key-items.result ≡ from_on c.args.from.key es = c.range-key-items.ensures.between tt in
    let so_far : c.into_iter-key-iterator.result ≡ ys ++ c.loop-key.key-iterator = rest_so_far deref_pair c.loop-key.yielded _ _ c.loop-key.yielded_by in
    let e : ℕ × Record = (c.in-Some.key.now, c.in-Some.record.now) in
    let step : c.loop-key.key-iterator ≡ e ∷ c.next.new.self = rest_more deref_pair _ _ _ (c.in-Some.key, c.in-Some.record) c.in-Some.is c.next.ensures.steps in
    let is : rest c.args.from.key es ≡ ys ++ (e ∷ c.next.new.self) = stands c.args.from.key es c.range-key-items.result c.into_iter-key-iterator.result ys c.loop-key.key-iterator c.next.new.self e s between c.into_iter-key-iterator.ensures.into_iter_gives so_far step in
    let stays : is_left keys e ≡ true = ap not (sym c.is_among.ensures ∙ c.if-is_among.false) in
    let left_is : rest c.args.from.key (without_keys keys es) ≡ without_keys keys ys ++ (e ∷ without_keys keys c.next.new.self) = stands_left keys c.args.from.key es ys c.next.new.self e s is stays in
    subst (λ rs. place rs (record { key = e.0; skip = c.loop-key.left }) ≡ place rs c.args.from + c.args.by) (sym (without-left keys es s))
    (found_place c.args.from c.args.by c.loop-key.left (without_keys keys es) (without_keys keys ys) (without_keys keys c.next.new.self) e (left_sorted keys es s) left_is c.loop-key.invariant.gone)

pub returns-then-left-count-clause-inside : goal.returns-then-left-count-clause-inside
returns-then-left-count-clause-inside c =
    let es : Records = c.args.records.now.entries in
    let keys : List ℕ = c.args.left_out.now in
    let ys : Records = map deref_pair c.loop-key.yielded in
    let s : IsStrictlySortedBy nat_cmp (keys_of es) = search rules in
    let between : c.range-key-items.result ≡ from_on c.args.from.key es = c.range-key-items.ensures.between tt in
    let so_far : c.into_iter-key-iterator.result ≡ ys ++ c.loop-key.key-iterator = rest_so_far deref_pair c.loop-key.yielded _ _ c.loop-key.yielded_by in
    let e : ℕ × Record = (c.in-Some.key.now, c.in-Some.record.now) in
    let step : c.loop-key.key-iterator ≡ e ∷ c.next.new.self = rest_more deref_pair _ _ _ (c.in-Some.key, c.in-Some.record) c.in-Some.is c.next.ensures.steps in
    let is : rest c.args.from.key es ≡ ys ++ (e ∷ c.next.new.self) = stands c.args.from.key es c.range-key-items.result c.into_iter-key-iterator.result ys c.loop-key.key-iterator c.next.new.self e s between c.into_iter-key-iterator.ensures.into_iter_gives so_far step in
    let stays : is_left keys e ≡ true = ap not (sym c.is_among.ensures ∙ c.if-is_among.false) in
    let left_is : rest c.args.from.key (without_keys keys es) ≡ without_keys keys ys ++ (e ∷ without_keys keys c.next.new.self) = stands_left keys c.args.from.key es ys c.next.new.self e s is stays in
    subst (λ rs. c.loop-key.left < length (table_text (one e.0 rs))) (sym (without-left keys es s))
    (found_inside c.args.from c.args.by c.loop-key.left (without_keys keys es) (without_keys keys ys) (without_keys keys c.next.new.self) e (left_sorted keys es s) left_is c.loop-key.invariant.gone (omega (arith, length-record_text e, c.record_len-count.ensures, c.if-left-count.true)))

pub loop-key-preserved : goal.loop-key-preserved
loop-key-preserved c =
    let keys : List ℕ = c.args.left_out.now in
    let e : ℕ × Record = (c.in-Some.key.now, c.in-Some.record.now) in
    let stays : is_left keys e ≡ true = ap not (sym c.is_among.ensures ∙ c.if-is_among.false) in
    record {
      gone = gone_more (without_keys keys (map deref_pair c.loop-key.yielded)) _ e c.loop-key.left _ c.record_len-count.result _ (left_kept keys c.loop-key.yielded (c.in-Some.key, c.in-Some.record) stays) c.loop-key.invariant.gone (omega (arith, length-record_text e, c.record_len-count.ensures))
          (omega (arith, c.if-left-count.false));
    }

pub loop-key-preserved-then-is_among : goal.loop-key-preserved-then-is_among
loop-key-preserved-then-is_among c =
    let keys : List ℕ = c.args.left_out.now in
    let goes : is_left keys (c.in-Some.key.now, c.in-Some.record.now) ≡ false = ap not (sym c.is_among.ensures ∙ c.if-is_among.true) in
    record { gone = ap (λ rs. c.loop-key.left + length (table_text rs)) (left_skipped keys c.loop-key.yielded (c.in-Some.key, c.in-Some.record) goes) ∙ c.loop-key.invariant.gone }

pub returns-clause-place : goal.returns-clause-place
returns-clause-place c =
    let es : Records = c.args.records.now.entries in
    let keys : List ℕ = c.args.left_out.now in
    let ys : Records = map deref_pair c.loop-key.yielded in
    let s : IsStrictlySortedBy nat_cmp (keys_of es) = search rules in
    let between : c.range-key-items.result ≡ from_on c.args.from.key es = c.range-key-items.ensures.between tt in
    let so_far : c.into_iter-key-iterator.result ≡ ys ++ c.loop-key.key-iterator = rest_so_far deref_pair c.loop-key.yielded _ _ c.loop-key.yielded_by in
    let is = stands_end c.args.from.key es c.range-key-items.result c.into_iter-key-iterator.result ys c.loop-key.key-iterator s between c.into_iter-key-iterator.ensures.into_iter_gives so_far (rest_all deref_pair _ _ _ c.in-None.is c.next.ensures.steps) in
    let within : place (without_keys keys es) c.args.from + c.args.by < length (table_text (without_keys keys es)) = subst (λ rs. place rs c.args.from + c.args.by < length (table_text rs)) (without-left keys es s) c.requires.within in
    absurd (never_end c.args.from c.args.by c.loop-key.left (without_keys keys es) (without_keys keys ys) (ends_left keys c.args.from.key es ys s is) c.loop-key.invariant.gone within)

pub returns-clause-inside : goal.returns-clause-inside
returns-clause-inside c =
    let es : Records = c.args.records.now.entries in
    let keys : List ℕ = c.args.left_out.now in
    let ys : Records = map deref_pair c.loop-key.yielded in
    let s : IsStrictlySortedBy nat_cmp (keys_of es) = search rules in
    let between : c.range-key-items.result ≡ from_on c.args.from.key es = c.range-key-items.ensures.between tt in
    let so_far : c.into_iter-key-iterator.result ≡ ys ++ c.loop-key.key-iterator = rest_so_far deref_pair c.loop-key.yielded _ _ c.loop-key.yielded_by in
    let is = stands_end c.args.from.key es c.range-key-items.result c.into_iter-key-iterator.result ys c.loop-key.key-iterator s between c.into_iter-key-iterator.ensures.into_iter_gives so_far (rest_all deref_pair _ _ _ c.in-None.is c.next.ensures.steps) in
    let within : place (without_keys keys es) c.args.from + c.args.by < length (table_text (without_keys keys es)) = subst (λ rs. place rs c.args.from + c.args.by < length (table_text rs)) (without-left keys es s) c.requires.within in
    absurd (never_end c.args.from c.args.by c.loop-key.left (without_keys keys es) (without_keys keys ys) (ends_left keys c.args.from.key es ys s is) c.loop-key.invariant.gone within)
