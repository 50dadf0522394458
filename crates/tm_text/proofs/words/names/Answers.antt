use Rattle.std.proofs.Common.{◌≡◌, ◌<◌, ℕ, List, [], length, take, get_or, arith, subst, Bor, add-one, length-append}
use Rattle.std.proofs.lemmas.List.{length-map, get_or-map, map-append, take_all}
use Rattle.std.proofs.lemmas.Result.{err_from_is_err_and}
use Rattle.std.proofs.Math.Seq.{take-suc}
use Rattle.tm_text.specs.Pieces.{texts}
use Rattle.tm_text.specs.Words.{IsNameWord}
use Rattle.tm_text.proofs.WordLemmas.{length-names, AreNames-push, AreNames-at, Reads-err}
use Rattle.tm_text.proofs.words.names.Goals as goal

pub returns-then-parts-gt-MAX_NAMES : goal.returns-then-parts-gt-MAX_NAMES
returns-then-parts-gt-MAX_NAMES c =
    λ path is. omega (arith, length-names _ _ is.0, is.1, length-map c.args.parts.now (λ (w : Bor (List ℕ)). w.now))

pub returns-in_err-name : goal.returns-in_err-name
returns-in_err-name c =
    let p = err_from_is_err_and c.from_residual.result c.from_residual.ensures.1 in
    let low : c.loop-part.part-index < length c.args.parts.now = omega arith in
    let here = get_or-map (λ (w : Bor (List ℕ)). w.now) c.args.parts.now c.loop-part.part-index (record { ref_ptr = (0, 0); now = [] }) [] low in
    rw (p.1, p.2)
    (Reads-err _ c.in_err-name.ensures (λ path is. (
      get_or path c.loop-part.part-index [],
      subst (λ (w : List ℕ). IsNameWord w (get_or path c.loop-part.part-index [])) here
          (AreNames-at (texts c.args.parts.now) path c.loop-part.part-index is.0
          (omega (arith, length-map c.args.parts.now (λ (w : Bor (List ℕ)). w.now)))),
    )))

pub push-requires : goal.push-requires
push-requires c = omega arith

pub loop-part-preserved : goal.loop-part-preserved
loop-part-preserved c =
    let word = λ (w : Bor (List ℕ)). w.now in
    let low : c.loop-part.part-index < length c.args.parts.now = omega arith in
    let more = take-suc c.args.parts.now c.loop-part.part-index (record { ref_ptr = (0, 0); now = [] }) low in
    record {
      named = rw (c.in_ok-push.ensures.ok, add-one, more, map-append)
          (AreNames-push _ _ _ _ c.loop-part.invariant.named c.in_ok-name.ensures);
      count = rw (c.in_ok-push.ensures.ok, length-append) (omega (arith, c.loop-part.invariant.count));
    }

pub returns : goal.returns
returns c =
    let all : take c.loop-part.part-index c.args.parts.now ≡ c.args.parts.now = take_all c.loop-part.part-index c.args.parts.now (omega arith) in
    (rw all at c.loop-part.invariant.named, omega (arith, c.loop-part.invariant.count))
