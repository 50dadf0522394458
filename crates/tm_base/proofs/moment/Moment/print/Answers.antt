use Rattle.std.proofs.Common.{◌∙◌, ap, pos}
use Rattle.std.proofs.lemmas.Result.{IfOk-weaker}
use Rattle.std.proofs.lemmas.Str.{IsUtf8-from_ascii}
use Rattle.tm_base.proofs.MomentLemmas.{year_from_days, civil_seconds-split, ok_if}
use Rattle.std.proofs.Common.{◌≤◌, subst, string_bytes}
use Rattle.tm_base.specs.Days.{last_moment}
use Rattle.tm_base.proofs.DayLemmas.{text_is}
use Rattle.tm_base.proofs.moment.Moment.print.Goals as goal

pub printed-bytes-requires : goal.printed-bytes-requires
printed-bytes-requires c = year_from_days c.from_days_since_min-date.result _ c.from_days_since_min-date.ensures

pub unwrap-text-requires : goal.unwrap-text-requires
unwrap-text-requires c =
    ok_if c.from_utf8.result _ _ _ c.from_utf8.ensures.cases (rw c.as_slice.ensures (IsUtf8-from_ascii _ c.printed-bytes.ensures.ascii))

pub returns-clause-text : goal.returns-clause-text
returns-clause-text c =
    let date = c.from_days_since_min-date.result in
    let time = c.from_second-time.result in
    let small : c.args.self ≤ last_moment = subst (λ n. n ≤ last_moment) c.self.view_is c.self.invariant in
    let read = rw c.unwrap-text.ensures at c.from_utf8.ensures.cases in
    IfOk-weaker c.from_str.result _ _
    (λ t same. text_is (string_bytes t) c.args.self small (record {
      at = record { date = date; time = time };
      whole = record { year = year_from_days date _ c.from_days_since_min-date.ensures; second = c.from_second-time.ensures.subsec };
      written = same ∙ read.0 ∙ c.as_slice.ensures ∙ c.printed-bytes.ensures.text;
      counted = civil_seconds-split (record { date = date; time = time }) c.self.inside.seconds c.from_days_since_min-date.ensures c.from_second-time.ensures.seconds ∙ ap pos c.self.view_is;
    })) c.from_str.ensures.ok
