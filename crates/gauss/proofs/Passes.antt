-- The two passes of back substitution, a group of eight unknowns at a time from the last one down.
use Rattle.std.proofs.Common.{◌≡◌, ◌≢◌, ℕ, zero, suc, ◌+◌, ◌-◌, ◌*◌, ◌/◌, ◌<◌, ◌≤◌, ◌⊎◌, ⊎_elim}
use Rattle.std.proofs.Common.{Bool, true, false, not, ◌&&◌, ◌==◌, refl, sym, ap, ap₂, ◌∙◌, arith}
use Rattle.std.proofs.Common.{true≢false, eq-eqb, ltb, add-zero}
use Rattle.std.proofs.lemmas.Bool.{lt-ltb, le-ltb, cases_lt, cases_eq, ne_eqb}
use Rattle.sparse_rows.specs.Closure.{Set}
use Rattle.sparse_rows.proofs.Algebra.{XorLaws, right}
use Rattle.gauss.specs.Elimination.{product}
use Rattle.gauss.specs.Groups.{in_group}
use Rattle.gauss.proofs.Products.{product_same, product_none}
use Rattle.gauss.proofs.Clearing.{product_on}
use Rattle.gauss.proofs.Growing.{product_more}
use Rattle.gauss.proofs.Groups.{backward_step, from_group}

-- ---- which unknowns lie in a group

no_and : (b : Bool) → (b && false) ≡ false
no_and true = refl
no_and false = refl

both_true : (a b : Bool) → (a && b) ≡ true → (a ≡ true) × (b ≡ true)
both_true true true e = (refl, refl)
both_true true false e = absurd (true≢false (sym e))
both_true false b e = absurd (true≢false (sym e))

of_group : (g c : ℕ) (b : Bool) → ((c / 8 == g) && b) ≡ true → c / 8 ≡ g
of_group g c b e = ⊎_elim (λ is. is)
    (λ ne. absurd (true≢false (sym e ∙ rw (ne_eqb (c / 8) g ne) refl))) (cases_eq (c / 8) g)

of_later : (g c : ℕ) (b : Bool) → (not (ltb (c / 8) g) && b) ≡ true → g ≤ c / 8
of_later g c b e = ⊎_elim (λ lt. absurd (true≢false (sym e ∙ rw (lt-ltb (c / 8) g lt) refl)))
    (λ le. le) (cases_lt (c / 8) g)

-- nothing before c lies in a later group
none_before : (g c d : ℕ) (b : Bool) → c / 8 ≡ g → (not (ltb (d / 8) (g + 1)) && (ltb d c && b))
    ≡ false
none_before g c d b e = ⊎_elim
    (λ lt. rw (lt-ltb d c lt, lt-ltb (d / 8) (g + 1) (omega (arith, e, lt))) refl)
    (λ le. rw (le-ltb d c le) (no_and _)) (cases_lt d c)

-- nothing behind c lies in an earlier group
none_behind : (g c d : ℕ) (b : Bool) → g < c / 8 → ((d / 8 == g) && (ltb c d && b)) ≡ false
none_behind g c d b later = ⊎_elim
    (λ lt. rw (ne_eqb (d / 8) g (λ e. omega (arith, e, lt, later))) refl)
    (λ le. rw (le-ltb c d le) (no_and _)) (cases_lt c d)

module _ {G : Type 0} (o : G) (add : G → G → G) (laws : XorLaws G o add) (u : ℕ) where
  -- ---- the first group and the last

  pub all_groups : (mask : Set) (x : ℕ → G) → product o add u (from_group 0 mask) x ≡ product o add
      u mask x
  all_groups mask x = product_same o add laws u (from_group 0 mask) mask x
      (λ c lt. rw (le-ltb (c / 8) 0 (omega arith)) refl)

  pub no_group : (n : ℕ) (mask : Set) (x : ℕ → G) → u ≤ n * 8
      → product o add u (from_group n mask) x ≡ o
  no_group n mask x le = product_none o add laws u (from_group n mask) x
      (λ c lt. rw (lt-ltb (c / 8) n (omega (arith, le, lt))) refl)

  -- the mask ends before u
  pub product_until : (n k : ℕ) (mask : Set) (x : ℕ → G) → ((c : ℕ) → n ≤ c → mask c ≡ false)
      → product o add (n + k) mask x ≡ product o add n mask x
  product_until n zero mask x none = ap (λ m. product o add m mask x) (add-zero n)
  product_until n (suc k) mask x none = ap (λ m. product o add m mask x) step
      ∙ product_more o add laws (n + k) mask x ∙ rw (none (n + k) (omega arith))
      (right o add laws _) ∙ product_until n k mask x none
    where
      step : n + suc k ≡ n + k + 1
      step = omega arith

  -- nothing before p lies in a later group
  pub none_yet : (g p : ℕ) (mask : Set) (x : ℕ → G) → p < g * 8
      → product o add u (in_group g (λ c. ltb c p && mask c)) x ≡ o
  none_yet g p mask x low = product_none o add laws u (in_group g (λ c. ltb c p && mask c)) x
      (λ c lt. ⊎_elim
      (λ e. rw (le-ltb c p (omega (arith, e, low))) (no_and _))
      (λ ne. rw (ne_eqb (c / 8) g ne) refl) (cases_eq (c / 8) g))

  -- what a row has behind p in its group, of which `end` is the end
  pub within_group : (g p end : ℕ) (mask : Set) (x : ℕ → G) → p / 8 ≡ g → end ≤ u → end ≤ g * 8 + 8
      → (end ≡ u) ⊎ (end ≡ g * 8 + 8)
      → product o add end (λ c. ltb p c && mask c) x ≡ product o add u
      (in_group g (λ c. ltb p c && mask c)) x
  within_group g p end mask x own inside few ends = product_same o add laws end
      (λ c. ltb p c && mask c) (in_group g (λ c. ltb p c && mask c)) x at ∙ ⊎_elim
      (λ e. ap (λ m. product o add m (in_group g (λ c. ltb p c && mask c)) x) e)
      (λ e. sym (ap (λ m. product o add m (in_group g (λ c. ltb p c && mask c)) x) rest
      ∙ product_until end (u - end) (in_group g (λ c. ltb p c && mask c)) x
      (λ c le. rw (ne_eqb (c / 8) g (λ f. omega (arith, e, f, le))) refl)))
      ends
    where
      rest : u ≡ end + (u - end)
      rest = omega (arith, inside)

      at : (c : ℕ) → c < end → (ltb p c && mask c) ≡ in_group g (λ d. ltb p d && mask d) c
      at c lt = ⊎_elim
          (λ gt. rw (lt-ltb p c gt, eq-eqb (c / 8) g (omega (arith, own, gt, lt, few))) refl)
          (λ le. rw (le-ltb p c le) (sym (no_and _))) (cases_lt p c)

  -- what stands behind p in a group is the same where the unknowns behind p are
  pub behind_in_group : (g p : ℕ) (mask : Set) (x y : ℕ → G) → ((c : ℕ) → p < c → x c ≡ y c)
      → product o add u (in_group g (λ c. ltb p c && mask c)) x ≡ product o add u
      (in_group g (λ c. ltb p c && mask c)) y
  behind_in_group g p mask x y h = product_on o add laws u own own x y (λ c. refl)
      (λ c lt e. h c (⊎_elim (λ gt. gt) (λ le. absurd (true≢false (sym e ∙ none c le)))
      (cases_lt p c)))
    where
      own : Set
      own = in_group g (λ c. ltb p c && mask c)

      none : (c : ℕ) → c ≤ p → own c ≡ false
      none c le = rw (le-ltb p c le) (no_and _)

  module _ (mask : ℕ → Set) where
    -- ---- forward: the first symbols before each unknown

    same_in_group : (g : ℕ) (first now : ℕ → G)
        → ((p : ℕ) → p < u → now p ≡ add (first p)
        (product o add u (from_group (g + 1) (λ c. ltb c p && mask p c)) first)) → (c : ℕ) → c < u
        → c / 8 ≡ g → now c ≡ first c
    same_in_group g first now h c lt e = h c lt
        ∙ ap (add (first c)) (product_none o add laws u
        (from_group (g + 1) (λ d. ltb d c && mask c d)) first (λ d lt2. none_before g c d (mask c d)
        e)) ∙ right o add laws (first c)

    pub taken_step : (g : ℕ) (first now next : ℕ → G)
        → ((p : ℕ) → p < u → now p ≡ add (first p)
        (product o add u (from_group (g + 1) (λ c. ltb c p && mask p c)) first))
        → ((p : ℕ) → p < u → next p ≡ add (now p)
        (product o add u (in_group g (λ c. ltb c p && mask p c)) now))
        → (p : ℕ) → p < u → next p ≡ add (first p)
        (product o add u (from_group g (λ c. ltb c p && mask p c)) first)
    taken_step g first now next h step p lt = step p lt
        ∙ ap₂ add (h p lt) (product_on o add laws u (in_group g own) (in_group g own) now first
        (λ c. refl) (λ c lt2 e. same_in_group g first now h c lt2 (of_group g c (own c) e)))
        ∙ laws.assoc (first p) _ _ ∙ ap (add (first p))
        (sym (backward_step o add laws u g own first))
      where
        own : Set
        own c = ltb c p && mask p c

    -- ---- backward: the values behind each unknown

    pub behind_step : (g : ℕ) (first now next : ℕ → G)
        → ((p : ℕ) → p < u → now p ≡ add (first p)
        (product o add u (from_group (g + 1) (λ c. ltb p c && mask p c)) now))
        → ((p : ℕ) → p < u → next p ≡ add (now p)
        (product o add u (in_group g (λ c. ltb p c && mask p c)) next))
        → (p : ℕ) → p < u → next p ≡ add (first p)
        (product o add u (from_group g (λ c. ltb p c && mask p c)) next)
    behind_step g first now next h step p lt = step p lt
        ∙ ap (λ v. add v (product o add u (in_group g own) next)) (h p lt
        ∙ ap (add (first p)) (product_on o add laws u (from_group (g + 1) own)
        (from_group (g + 1) own) now next (λ c. refl)
        (λ c lt2 e. sym (kept c lt2 (of_later (g + 1) c (own c) e)))))
        ∙ laws.assoc (first p) _ _ ∙ ap (add (first p))
        (sym (backward_step o add laws u g own next))
      where
        own : Set
        own c = ltb p c && mask p c

        -- the symbols of the later groups stay
        kept : (c : ℕ) → c < u → g + 1 ≤ c / 8 → next c ≡ now c
        kept c lt2 later = step c lt2 ∙ ap (add (now c))
            (product_none o add laws u (in_group g (λ d. ltb c d && mask c d)) next
            (λ d lt3. none_behind g c d (mask c d) (omega (arith, later))))
            ∙ right o add laws (now c)

    -- one group: within it, and then before it
    pub group_step : (g : ℕ) (now mid next : ℕ → G)
        → ((p : ℕ) → p < u → p / 8 ≡ g
        → mid p ≡ add (now p) (product o add u (in_group g (λ c. ltb p c && mask p c)) mid))
        → ((p : ℕ) → p / 8 ≢ g → mid p ≡ now p)
        → ((p : ℕ) → p < g * 8 → next p ≡ add (mid p) (product o add u (in_group g (mask p)) mid))
        → ((p : ℕ) → g * 8 ≤ p → next p ≡ mid p)
        → (p : ℕ) → p < u → next p ≡ add (now p)
        (product o add u (in_group g (λ c. ltb p c && mask p c)) next)
    group_step g now mid next own others low rest p lt =
        ⊎_elim before (λ le. ⊎_elim within past (cases_eq (p / 8) g)) (cases_lt p (g * 8))
      where
        -- the values of the group stay
        same : (a b : Set) → ((c : ℕ) → in_group g a c ≡ in_group g b c)
            → product o add u (in_group g a) mid ≡ product o add u (in_group g b) next
        same a b h = product_on o add laws u (in_group g a) (in_group g b) mid next h
            (λ c lt2 e. let at : c / 8 ≡ g = of_group g c (a c) e in
            sym (rest c (omega (arith, at))))

        before : p < g * 8 → next p ≡ add (now p)
            (product o add u (in_group g (λ c. ltb p c && mask p c)) next)
        before lt2 = low p lt2 ∙ ap₂ add (others p (λ e. omega (arith, e, lt2)))
            (same (mask p) (λ c. ltb p c && mask p c) (λ c. ⊎_elim
            (λ e. rw (lt-ltb p c (omega (arith, e, lt2))) refl)
            (λ ne. rw (ne_eqb (c / 8) g ne) refl) (cases_eq (c / 8) g)))

        within : p / 8 ≡ g → next p ≡ add (now p)
            (product o add u (in_group g (λ c. ltb p c && mask p c)) next)
        within e = rest p (omega (arith, e)) ∙ own p lt e
            ∙ ap (add (now p)) (same (λ c. ltb p c && mask p c) (λ c. ltb p c && mask p c)
            (λ c. refl))

        past : p / 8 ≢ g → next p ≡ add (now p)
            (product o add u (in_group g (λ c. ltb p c && mask p c)) next)
        past ne = ⊎_elim (λ lt2. before lt2) (λ le. rest p le ∙ others p ne
            ∙ sym (ap (add (now p)) (product_none o add laws u
            (in_group g (λ d. ltb p d && mask p d)) next (λ d lt3. none_behind g p d (mask p d)
            (omega (arith, le, ne)))) ∙ right o add laws (now p))) (cases_lt p (g * 8))
