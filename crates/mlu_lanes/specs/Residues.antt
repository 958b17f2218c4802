-- The ring of the residues modulo m, for any type that holds them.
use Rattle.std.specs.Prelude.{◌≡◌, ◌↔◌, IsTrue, eqb, ℕ, ◌+◌, ◌-◌, ◌*◌, ◌%◌, ◌<◌}
use Rattle.std.proofs.Common.{ap, sym, ◌∙◌, arith, zero-add, eq-eqb}
use Rattle.std.proofs.Math.Nat.{mod-eq_of_lt, add-mod-mod, mod-add-mod, add_comm, mul_comm, one-mul}
use Rattle.std.proofs.lemmas.Bool.{eqb-true}
use Rattle.std.proofs.lemmas.Nat.{mul-mod_first}
use Rattle.mlu_ring.specs.Ring.{Ring, RingLaws}
use Rattle.mlu_ring.proofs.Modulo.{mod-sum_assoc, mod-negation, mod-product_assoc, mod-product_sum}

-- the values of the type are the least residues
pub record IsResidues {T : Type 0} (m : ℕ) (value : T → ℕ) (residue : ℕ → T) : Type 0 where
  pub value-residue : (n : ℕ) → value (residue n) ≡ n % m
  pub same_value : (a b : T) → value a ≡ value b → a ≡ b
  pub value_below : (t : T) → value t < m

module _ {T : Type 0} (m : ℕ) (value : T → ℕ) (residue : ℕ → T) where
  -- sums and products of integers, modulo m
  abbrev pub residue_ring : Ring T
  residue_ring = record {
    zero = residue 0;
    one = residue 1;
    sum = λ a b. residue (value a + value b);
    minus = λ a b. residue (value a + (m - value b));
    negation = λ a. residue (m - value a);
    product = λ a b. residue (value a * value b);
  }

module _ {T : Type 0} {m : ℕ} {value : T → ℕ} {residue : ℕ → T} (is : IsResidues m value residue) where
  -- equal by `==` exactly where equal as values
  pub eq_residues : (a b : T) → IsTrue (eqb (value a) (value b)) ↔ (a ≡ b)
  eq_residues a b = (λ h. is.same_value a b (eqb-true (value a) (value b) h), λ e. eq-eqb (value a) (value b) (ap value e))

  pub same_residue : (j k : ℕ) → j % m ≡ k % m → residue j ≡ residue k
  same_residue j k h = is.same_value _ _ (is.value-residue j ∙ h ∙ sym (is.value-residue k))

  pub residue-value : (t : T) → residue (value t) ≡ t
  residue-value t = is.same_value _ _ (is.value-residue (value t) ∙ mod-eq_of_lt (is.value_below t))

  pub residue_laws : RingLaws (residue_ring m value residue)
  residue_laws = record {
    sum_assoc = λ a b c.
        rw (is.value-residue (value a + value b), is.value-residue (value b + value c))
        (same_residue _ _ (mod-sum_assoc m (value a) (value b) (value c)));
    sum_comm = λ a b. ap residue (add_comm (value a) (value b));
    zero_sum = λ a.
        rw (is.value-residue 0) (same_residue _ _ (mod-add-mod 0 m (value a) ∙ ap (λ n. n % m) (zero-add (value a))) ∙ residue-value a);
    negation_sum = λ a.
        let zero : 0 % m ≡ 0 = mod-eq_of_lt (let h : value a < m = is.value_below a in omega arith) in
        rw (is.value-residue (m - value a)) (same_residue _ _ (mod-negation m (value a) (is.value_below a) ∙ sym zero));
    minus_is = λ a b. rw (is.value-residue (m - value b)) (same_residue _ _ (sym (add-mod-mod (value a) (m - value b) m)));
    product_assoc = λ a b c.
        rw (is.value-residue (value a * value b), is.value-residue (value b * value c))
        (same_residue _ _ (mod-product_assoc m (value a) (value b) (value c)));
    product_comm = λ a b. ap residue (mul_comm (value a) (value b));
    one_product = λ a.
        rw (is.value-residue 1) (same_residue _ _ (mul-mod_first 1 (value a) m ∙ ap (λ n. n % m) (one-mul (value a))) ∙ residue-value a);
    product_sum = λ a b c.
        rw (is.value-residue (value b + value c), is.value-residue (value a * value b), is.value-residue (value a * value c))
        (same_residue _ _ (mod-product_sum m (value a) (value b) (value c)));
  }
