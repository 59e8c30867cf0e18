-- Words that the buffer says already are laid again without a change; behind the text they are put.
use native.Mathlib.Omega.{arith}
use mathlib.Core.Path.{◌≡◌, sym, ap, ap₂, subst, ◌∙◌}
use mathlib.Core.List.{List, [], ◌∷◌, ◌++◌, append_assoc}
use Prim.Native.Nat.{ℕ, suc, ◌+◌, ◌≤◌, ◌<◌, min}
use borrow.Author.Tests.{ltb-true, ltb-false}
use lib.Dec.{ltb}
use lib.IntN.{ℤ, pos}
use lib.ListN.{length, get_or, set, length-append}
use lib.Seq.{set-get_or, get_or-append_seam}
use Rattle.spec_calculus.specs.Lists.{pick}
use Rattle.base_signed.proofs.SignedWords.{by-test}
use Rattle.base_signed.proofs.Limit.{bump-min}
use Rattle.base_signed.specs.Limit.{number_limit}
use Rattle.answer_writer.specs.LaidWords.{bump, laid, pt, lays}
use Rattle.answer_writer.proofs.LaidWords.{laid_in, laid-limit}
use Rattle.plan_machine.specs.AnswerText.{put, puts, Written}
use Rattle.plan_machine.proofs.TextEdits.{put-off}

bump-next : (k : ℕ) → bump (min k number_limit) ≡ min (suc k) number_limit
bump-next k = bump-min (min k number_limit) (omega arith) ∙ omega arith

module _ {limit : ℕ} (short : limit ≤ number_limit) where
  -- a word that stands there
  laid-there : {lent o t : List ℤ} → Written limit lent o t → (k : ℕ) (x : ℤ) → k < length t → get_or t k (pos 0) ≡ x → laid limit (min k number_limit) x o ≡ o
  laid-there {o = o} W k x l e = by-test (ltb k limit)
      (λ b. let h = ltb-true k limit b in
      ap (λ (j : ℕ). laid limit j x o) (omega (arith, h, short)) ∙ laid_in limit k x o h ∙ ap (set o k) (sym (W.says k l h ∙ e)) ∙ set-get_or o k (pos 0))
      (λ b. laid-limit limit (min k number_limit) x o (omega (arith, ltb-false k limit b, short)))

  -- several, behind those of u
  pub lays-there : {lent o : List ℤ} (u l v : List ℤ) → Written limit lent o (u ++ (l ++ v)) → lays limit l (pt o (min (length u) number_limit)) ≡ pt o (min (length u + length l) number_limit)
  unfolding lays
  lays-there {o = o} u [] v W = ap (pt o) (omega arith)
  lays-there {lent} {o} u (x ∷ l) v W =
      let n : length (u ++ x ∷ []) ≡ suc (length u) = omega (arith, length-append u (x ∷ [])) in
      ap₂ (λ (z : List ℤ) (k : ℕ). lays limit l (pt z k)) (laid-there W (length u) x (omega (arith, length-append u (x ∷ (l ++ v)))) (get_or-append_seam u x (l ++ v) (pos 0))) (bump-next (length u) ∙ ap (λ (k : ℕ). min k number_limit) (sym n))
      ∙ lays-there (u ++ x ∷ []) l v (subst (Written limit lent o) (sym (append_assoc u (x ∷ []) (l ++ v))) W)
      ∙ ap (pt o) (omega (arith, n))

  -- a word behind the text, and several
  laid-put : (n : ℕ) (x : ℤ) (o : List ℤ) → laid limit (min n number_limit) x o ≡ put limit n x o
  unfolding laid put pick
  laid-put n x o = by-test (ltb n limit)
      (λ b. ap (λ (k : ℕ). laid limit k x o) (omega (arith, ltb-true n limit b, short)))
      (λ b. laid-limit limit (min n number_limit) x o (omega (arith, ltb-false n limit b, short)) ∙ sym (put-off limit n x o (ltb-false n limit b)))

  pub lays-from : (l o : List ℤ) (n : ℕ) → lays limit l (pt o (min n number_limit)) ≡ pt (puts limit n l o) (min (n + length l) number_limit)
  unfolding lays puts
  lays-from [] o n = ap (pt o) (omega arith)
  lays-from (x ∷ l) o n =
      ap₂ (λ (z : List ℤ) (k : ℕ). lays limit l (pt z k)) (laid-put n x o) (bump-next n)
      ∙ lays-from l (put limit n x o) (suc n) ∙ ap (pt (puts limit (suc n) l (put limit n x o))) (omega arith)
