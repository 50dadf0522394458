use Rattle.std.proofs.Common.{◌≡◌, ◌<◌, ◌≤◌, ◌^◌, ◌∷◌, ◌++◌, ℕ, List, true, false, not, length, take, map, rules, refl, sym, ◌∙◌, ap}
use Rattle.std.specs.Option.{unwrap_or}
use Rattle.std.specs.Map.Iter.{deref_pair}
use Rattle.std.specs.Map.{keys_of}
use Rattle.std.specs.Ordering.{nat_cmp}
use Rattle.std.specs.List.Sorted.{IsStrictlySortedBy}
use Rattle.std.proofs.lemmas.Map.Iter.{rest_more, rest_all, rest_so_far}
use Rattle.tm_records.specs.declared.record.Record.{Record}
use Rattle.tm_records.specs.Records.{Records}
use Rattle.tm_table.specs.Text.{record_text}
use Rattle.tm_table.proofs.Writing.{without_keys, is_left, table-kept, table-skipped}
use Rattle.tm_table.proofs.Leaving.{without-left}
use Rattle.tm_runs.specs.Marks.{end, rest}
use Rattle.tm_runs.proofs.Stretches.{table-none}
use Rattle.tm_runs.proofs.Encoding.{from_on, entry_in, text_to, spelled_end, spelled_break, stands, stands_end, not_below, is_below_then}
use Rattle.tm_runs.proofs.Leaving.{left_sorted, stands_left, ends_left, passed_kept, passed_skipped}
use Rattle.tm_runs.proofs.encode.spell.Goals as goal

pub loop-key-init : goal.loop-key-init
loop-key-init c = record { text = c.new-text.ensures.items ∙ sym table-none; passed = λ more. refl }

pub push_front-requires : goal.push_front-requires
push_front-requires c =
    let es : Records = c.args.records.now.entries in
    let s : IsStrictlySortedBy nat_cmp (keys_of es) = search rules in
    let between : c.range-key-items.result ≡ from_on c.args.low es = c.range-key-items.ensures.between tt in
    let so_far : c.into_iter-key-iterator.result ≡ map deref_pair c.loop-key.yielded ++ c.loop-key.key-iterator = rest_so_far deref_pair c.loop-key.yielded _ _ c.loop-key.yielded_by in
    let step : c.loop-key.key-iterator ≡ (c.in-Some.key.now, c.in-Some.record.now) ∷ c.next.new.self = rest_more deref_pair _ _ _ (c.in-Some.key, c.in-Some.record) c.in-Some.is c.next.ensures.steps in
    let is : rest c.args.low es ≡ map deref_pair c.loop-key.yielded ++ ((c.in-Some.key.now, c.in-Some.record.now) ∷ c.next.new.self)
    = stands c.args.low es c.range-key-items.result c.into_iter-key-iterator.result (map deref_pair c.loop-key.yielded) c.loop-key.key-iterator c.next.new.self (c.in-Some.key.now, c.in-Some.record.now) s between c.into_iter-key-iterator.ensures.into_iter_gives so_far step in
    entry_in (λ e. length e.1.meta < 2 ^ 32) c.args.low es (map deref_pair c.loop-key.yielded) c.next.new.self (c.in-Some.key.now, c.in-Some.record.now) c.requires.metas is

pub push_record-requires : goal.push_record-requires
push_record-requires c =
    let es : Records = c.args.records.now.entries in
    let s : IsStrictlySortedBy nat_cmp (keys_of es) = search rules in
    let between : c.range-key-items.result ≡ from_on c.args.low es = c.range-key-items.ensures.between tt in
    let so_far : c.into_iter-key-iterator.result ≡ map deref_pair c.loop-key.yielded ++ c.loop-key.key-iterator = rest_so_far deref_pair c.loop-key.yielded _ _ c.loop-key.yielded_by in
    let step : c.loop-key.key-iterator ≡ (c.in-Some.key.now, c.in-Some.record.now) ∷ c.next.new.self = rest_more deref_pair _ _ _ (c.in-Some.key, c.in-Some.record) c.in-Some.is c.next.ensures.steps in
    let is : rest c.args.low es ≡ map deref_pair c.loop-key.yielded ++ ((c.in-Some.key.now, c.in-Some.record.now) ∷ c.next.new.self)
    = stands c.args.low es c.range-key-items.result c.into_iter-key-iterator.result (map deref_pair c.loop-key.yielded) c.loop-key.key-iterator c.next.new.self (c.in-Some.key.now, c.in-Some.record.now) s between c.into_iter-key-iterator.ensures.into_iter_gives so_far step in
    entry_in (λ e. length e.1.meta < 2 ^ 32) c.args.low es (map deref_pair c.loop-key.yielded) c.next.new.self (c.in-Some.key.now, c.in-Some.record.now) c.requires.metas is

pub returns-then-not-is_below : goal.returns-then-not-is_below
returns-then-not-is_below c =
    let es : Records = c.args.records.now.entries in
    let keys : List ℕ = c.args.left_out.now in
    let ys : Records = map deref_pair c.loop-key.yielded in
    let e : ℕ × Record = (c.in-Some.key.now, c.in-Some.record.now) in
    let s : IsStrictlySortedBy nat_cmp (keys_of es) = search rules in
    let between : c.range-key-items.result ≡ from_on c.args.low es = c.range-key-items.ensures.between tt in
    let so_far : c.into_iter-key-iterator.result ≡ ys ++ c.loop-key.key-iterator = rest_so_far deref_pair c.loop-key.yielded _ _ c.loop-key.yielded_by in
    let step : c.loop-key.key-iterator ≡ e ∷ c.next.new.self = rest_more deref_pair _ _ _ (c.in-Some.key, c.in-Some.record) c.in-Some.is c.next.ensures.steps in
    let is : rest c.args.low es ≡ ys ++ (e ∷ c.next.new.self) = stands c.args.low es c.range-key-items.result c.into_iter-key-iterator.result ys c.loop-key.key-iterator c.next.new.self e s between c.into_iter-key-iterator.ensures.into_iter_gives so_far step in
    let stays : is_left keys e ≡ true = ap not (sym c.is_among.ensures ∙ c.if-is_among.false) in
    let behind : (unwrap_or c.args.high end).key ≤ c.in-Some.key.now = not_below c.is_below.result c.in-Some.key.now (unwrap_or c.args.high end).key c.if-not-is_below.true c.is_below.ensures in
    c.in_ok-push_front.ensures ∙ ap (λ t. t ++ take c.bytes_before.result (record_text e)) c.loop-key.invariant.text
    ∙ spelled_break c.args.low (unwrap_or c.args.high end).key (unwrap_or c.args.high end).skip (without_keys keys es) (without_keys keys ys) c.loop-key.invariant.passed c.requires.order e (without_keys keys c.next.new.self) (stands_left keys c.args.low es ys c.next.new.self e s is stays) behind (left_sorted keys es s)
    c.bytes_before.result c.bytes_before.ensures.here c.bytes_before.ensures.behind
    ∙ ap (text_to c.args.low (unwrap_or c.args.high end).key (unwrap_or c.args.high end).skip) (sym (without-left keys es s))

pub loop-key-preserved : goal.loop-key-preserved
loop-key-preserved c =
    let stays : is_left c.args.left_out.now (c.in-Some.key.now, c.in-Some.record.now) ≡ true = ap not (sym c.is_among.ensures ∙ c.if-is_among.false) in
    let under : c.in-Some.key.now < (unwrap_or c.args.high end).key = is_below_then c.is_below.result c.in-Some.key.now (unwrap_or c.args.high end).key c.if-not-is_below.false c.is_below.ensures in
    record {
      text = table-kept c.args.left_out.now c.loop-key.yielded (c.in-Some.key, c.in-Some.record) _ _ c.loop-key.invariant.text stays c.in_ok-push_record.ensures;
      passed = passed_kept c.args.left_out.now c.loop-key.yielded (c.in-Some.key, c.in-Some.record) (unwrap_or c.args.high end).key c.loop-key.invariant.passed under stays;
    }

pub loop-key-preserved-then-is_among : goal.loop-key-preserved-then-is_among
loop-key-preserved-then-is_among c =
    let goes : is_left c.args.left_out.now (c.in-Some.key.now, c.in-Some.record.now) ≡ false = ap not (sym c.is_among.ensures ∙ c.if-is_among.true) in
    record {
      text = table-skipped c.args.left_out.now c.loop-key.yielded (c.in-Some.key, c.in-Some.record) _ c.loop-key.invariant.text goes;
      passed = passed_skipped c.args.left_out.now c.loop-key.yielded (c.in-Some.key, c.in-Some.record) (unwrap_or c.args.high end).key c.loop-key.invariant.passed goes;
    }

pub returns : goal.returns
returns c =
    let es : Records = c.args.records.now.entries in
    let keys : List ℕ = c.args.left_out.now in
    let ys : Records = map deref_pair c.loop-key.yielded in
    let s : IsStrictlySortedBy nat_cmp (keys_of es) = search rules in
    let between : c.range-key-items.result ≡ from_on c.args.low es = c.range-key-items.ensures.between tt in
    let so_far : c.into_iter-key-iterator.result ≡ ys ++ c.loop-key.key-iterator = rest_so_far deref_pair c.loop-key.yielded _ _ c.loop-key.yielded_by in
    let is = stands_end c.args.low es c.range-key-items.result c.into_iter-key-iterator.result ys c.loop-key.key-iterator s between c.into_iter-key-iterator.ensures.into_iter_gives so_far (rest_all deref_pair _ _ _ c.in-None.is c.next.ensures.steps) in
    c.loop-key.invariant.text ∙ spelled_end c.args.low (unwrap_or c.args.high end).key (unwrap_or c.args.high end).skip (without_keys keys es) (without_keys keys ys) c.loop-key.invariant.passed c.requires.order (ends_left keys c.args.low es ys s is)
    ∙ ap (text_to c.args.low (unwrap_or c.args.high end).key (unwrap_or c.args.high end).skip) (sym (without-left keys es s))
