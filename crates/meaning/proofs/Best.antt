-- The best things of a set, question by question: where one of them says yes, those that say yes are left, else all are.
use mathlib.Core.Path.{◌≡◌, refl, sym, subst, ◌∙◌}
use mathlib.Core.Logic.{◌↔◌}
use mathlib.Core.List.{List, [], ◌∷◌, ◌++◌}
use mathlib.Core.Bool.{Bool, true, false, true≢false}
use Prim.Native.Nat.{ℕ}
use lib.Dec.{T}
use Rattle.meaning.specs.Ladder.{Question, reply, replies, better, Best}
use Rattle.meaning.proofs.Replies.{Compared, ahead, same, behind, compared, Last, earlier, final, at_last, still, decides, All, no_better}

module _ {A : Type 0} (S : A → Type 0) (lev : A → List ℕ) where
  -- two best things reply alike
  pub same_replies : (qs : List Question) {a b : A} → Best S lev qs a → Best S lev qs b → replies qs (lev a) ≡ replies qs (lev b)
  same_replies qs {a} {b} p q = go (compared (λ r. reply (lev a) r) (λ r. reply (lev b) r) qs)
    where
      go : Compared (replies qs (lev a)) (replies qs (lev b)) → replies qs (lev a) ≡ replies qs (lev b)
      go (ahead h) = absurd (q.unbeaten a p.member h)
      go (same e) = e
      go (behind h) = absurd (p.unbeaten b q.member h)

  -- where all say yes to every question all are best
  pub all_best : {C : Question → Type 0} (qs : List Question) → All C qs → ((q : Question) → C q → (b : A) → S b → reply (lev b) q ≡ true) →
      {a : A} → S a → Best S lev qs a
  all_best qs al f {a} s = record { member = s; unbeaten = λ b t h. no_better (λ r. reply (lev b) r) (λ r. reply (lev a) r) qs al (λ q c. f q c a s) h }

  -- the best on more questions are among the best on the first of them
  pub shorter : (qs rs : List Question) {a : A} → Best S lev (qs ++ rs) a → Best S lev qs a
  shorter qs rs {a} p = record { member = p.member; unbeaten = λ b t h. p.unbeaten b t (still (λ r. reply (lev b) r) (λ r. reply (lev a) r) qs rs h) }

  module _ (qs : List Question) (q : Question) where
    -- a best thing that replies as another best thing does is kept
    alike : {a b : A} → Best S lev qs a → S b → replies qs (lev b) ≡ replies qs (lev a) → Best S lev qs b
    alike {a} {b} p s e = record { member = s; unbeaten = λ c t h. p.unbeaten c t (subst (λ z. T (better (replies qs (lev c)) z)) e h) }

    one_yes : {a : A} → Best S lev qs a → reply (lev a) q ≡ true → Best S lev (qs ++ q ∷ []) a
    one_yes {a} p y = record { member = p.member; unbeaten = λ b t h. go b t (at_last (λ r. reply (lev b) r) (λ r. reply (lev a) r) qs q h) }
      where
        go : (b : A) → S b → Last (replies qs (lev b)) (replies qs (lev a)) (reply (lev b) q) (reply (lev a) q) → ⊥
        go b t (earlier h) = p.unbeaten b t h
        go b t (final e g f) = true≢false (sym y ∙ f)

    -- where one of the best says yes, the best that say yes are the best on one question more
    pub kept_yes : (u : A) → Best S lev qs u → reply (lev u) q ≡ true → (a : A) → (Best S lev qs a × (reply (lev a) q ≡ true)) ↔ Best S lev (qs ++ q ∷ []) a
    kept_yes u pu y a = (λ h. one_yes h.0 h.1, λ h. (shorter qs (q ∷ []) h, says h (reply (lev a) q) refl))
      where
        says : Best S lev (qs ++ q ∷ []) a → (b : Bool) → reply (lev a) q ≡ b → reply (lev a) q ≡ true
        says h true e = e
        says h false e =
            let alike = same_replies qs pu (shorter qs (q ∷ []) h) in
            absurd (h.unbeaten u pu.member (decides (λ r. reply (lev u) r) (λ r. reply (lev a) r) qs q alike y e))

    -- where none of the best says yes, they stay the best
    pub kept_no : ((u : A) → Best S lev qs u → reply (lev u) q ≡ false) → (a : A) → Best S lev qs a ↔ Best S lev (qs ++ q ∷ []) a
    kept_no no' a = (
      λ p. record { member = p.member; unbeaten = λ b t h. go p b t (at_last (λ r. reply (lev b) r) (λ r. reply (lev a) r) qs q h) },
      shorter qs (q ∷ []),
    )
      where
        go : Best S lev qs a → (b : A) → S b → Last (replies qs (lev b)) (replies qs (lev a)) (reply (lev b) q) (reply (lev a) q) → ⊥
        go p b t (earlier h) = p.unbeaten b t h
        go p b t (final e g f) = true≢false (sym g ∙ no' b (alike p t e))
