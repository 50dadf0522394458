-- One more change joins the record.
use Rattle.std.proofs.Common.{◌≡◌, ℕ, ◌+◌, ◌≤◌, List, [], ◌∷◌, ◌++◌, length, drop, refl, sym, ◌∙◌, ap, subst, arith}
use Rattle.std.proofs.lemmas.List.{length-append, drop-append-le, drop_all}
use Rattle.tm_world.specs.Outside.{Outside}
use Rattle.tm_world.specs.Log.{Steps}
use Rattle.tm_memworld.specs.declared.change.Change.{Change}
use Rattle.tm_memworld.specs.Contents.{Contents, view}
use Rattle.tm_memworld.specs.Change.{back, before, log_in, now-log_in}

before-push : (changes : List Change) (change : Change) (c : Contents) → before (changes ++ change ∷ []) c ≡ before changes (back change c)
before-push [] change c = refl
before-push (first ∷ changes) change c = ap (back first) (before-push changes change c)

past-push : (changes : List Change) (change : Change) (c later : Contents) → back change later ≡ c → (k : ℕ) → k ≤ length changes
    → view (before (drop k (changes ++ change ∷ [])) later) ≡ view (before (drop k changes) c)
past-push changes change c later undone k le =
    ap (λ cs. view (before cs later)) (drop-append-le k changes (change ∷ []) le)
    ∙ ap view (before-push (drop k changes) change later)
    ∙ ap (λ d. view (before (drop k changes) d)) undone

Steps-push : (changes : List Change) (change : Change) (c later : Contents) → back change later ≡ c → Steps (log_in changes c) (log_in (changes ++ change ∷ []) later) (view later)
Steps-push changes change c later undone =
    let longer : length (changes ++ change ∷ []) ≡ length changes + 1 = length-append changes (change ∷ []) in
    record {
      passes = record {
        later = omega (arith, longer);
        kept = λ k le. past-push changes change c later undone k le;
        each = λ k lt le. ap (λ cs. view (before cs later)) (drop_all k (changes ++ change ∷ []) (omega (arith, longer)));
      };
      ends = now-log_in (changes ++ change ∷ []) later;
    }

-- a change is noted, which can be undone, and after which this is outside
pub Steps-noted : (began : ℕ) (changes more : List Change) (change : Change) (c later : Contents) (after : Outside)
    → began ≤ length changes → more ≡ changes ++ change ∷ [] → back change later ≡ c → view later ≡ after
    → Steps (log_in (drop began changes) c) (log_in (drop began more) later) after
Steps-noted began changes more change c later after within noted undone seen =
    let same : drop began more ≡ drop began changes ++ change ∷ [] = ap (drop began) noted ∙ drop-append-le began changes (change ∷ []) within in
    subst (λ s. Steps (log_in (drop began changes) c) (log_in (drop began more) later) s) seen
    (subst (λ cs. Steps (log_in (drop began changes) c) (log_in cs later) (view later)) (sym same) (Steps-push (drop began changes) change c later undone))
