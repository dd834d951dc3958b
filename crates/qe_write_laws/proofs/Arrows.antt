-- Arrows form no cycle, so no chain of them is longer than there are tables.
use Rattle.std.proofs.Common.{◌≡◌, ◌≢◌, inl, inr, ℕ, zero, suc, ◌+◌, ◌<◌, ◌≤◌, Bool, true, false, cond, not, filter, List, [], ◌∷◌, length, refl, sym, ap, subst, ◌∙◌, arith, true≢false}
use Rattle.std.specs.Prelude.{◌==◌}
use Rattle.std.proofs.lemmas.Bool.{eqb-true, eq-eqb}
use Rattle.qe_text.specs.Lists.{In}
use Rattle.qe_base.specs.declared.schema.Relation.{Relation}
use Rattle.qe_base.specs.Schemas.{Schema}
use Rattle.qe_schema.proofs.Members.{from_filter}
use Rattle.qe_schema.specs.Cycles.{is_arrow, Chain, one, more, NoCycle}

-- ---- distinct numbers below a bound

abbrev Distinct : List ℕ → Type 0
Distinct [] = Unit {0}
Distinct (x ∷ xs) = (In x xs → ⊥) × Distinct xs

abbrev other : ℕ → ℕ → Bool
other n x = not (x == n)

kept_all : (n : ℕ) (xs : List ℕ) → (In n xs → ⊥) → filter (other n) xs ≡ xs
unfolding In
kept_all n [] apart = refl
kept_all n (x ∷ xs) apart = by_test (x == n) refl (kept_all n xs (λ is_in. apart (inr is_in)))
  where
    by_test : (b : Bool) → x == n ≡ b → filter (other n) xs ≡ xs → cond (not b) (x ∷ filter (other n) xs) (filter (other n) xs) ≡ x ∷ xs
    by_test true same rest = absurd (apart (inl (sym (eqb-true x n same))))
    by_test false differs rest = ap (λ l. x ∷ l) rest

one_less : (n : ℕ) (xs : List ℕ) → Distinct xs → length xs ≤ suc (length (filter (other n) xs))
one_less n [] distinct = omega arith
one_less n (x ∷ xs) (apart, distinct) = by_test (x == n) refl (one_less n xs distinct)
  where
    by_test : (b : Bool) → x == n ≡ b → length xs ≤ suc (length (filter (other n) xs)) → suc (length xs) ≤ suc (length (cond (not b) (x ∷ filter (other n) xs) (filter (other n) xs)))
    by_test true same rest =
        let kept : filter (other n) xs ≡ xs = kept_all n xs (λ is_in. apart (subst (λ m. In m xs) (sym (eqb-true x n same)) is_in)) in
        subst (λ l. suc (length xs) ≤ suc (length l)) (sym kept) (let most : suc (length xs) ≤ suc (length xs) = omega arith in most)
    by_test false differs rest = omega arith

kept_distinct : (n : ℕ) (xs : List ℕ) → Distinct xs → Distinct (filter (other n) xs)
kept_distinct n [] distinct = tt
kept_distinct n (x ∷ xs) (apart, distinct) = by_test (x == n) (kept_distinct n xs distinct)
  where
    by_test : (b : Bool) → Distinct (filter (other n) xs) → Distinct (cond (not b) (x ∷ filter (other n) xs) (filter (other n) xs))
    by_test true rest = rest
    by_test false rest = ((λ is_in. apart (from_filter (other n) xs x is_in).0), rest)

-- distinct numbers below a bound are at most as many
pigeons : (n : ℕ) (xs : List ℕ) → Distinct xs → ((x : ℕ) → In x xs → x < n) → length xs ≤ n
unfolding In
pigeons zero [] distinct below = omega arith
pigeons zero (x ∷ xs) distinct below = let none : x < 0 = below x (inl refl) in absurd (omega arith)
pigeons (suc n) xs distinct below =
    let rest : length (filter (other n) xs) ≤ n = pigeons n (filter (other n) xs) (kept_distinct n xs distinct) (λ x is_in. smaller x (from_filter (other n) xs x is_in)) in
    let one : length xs ≤ suc (length (filter (other n) xs)) = one_less n xs distinct in
    omega arith
  where
    smaller : (x : ℕ) → In x xs × (other n x ≡ true) → x < n
    smaller x (is_in, differs) = let most : x < suc n = below x is_in in let apart : x ≢ n = (λ same. true≢false (sym differs ∙ ap not (eq-eqb x n same))) in omega arith

-- ---- arrows from a table

-- fewer than so many arrows lead one after another from the table
abbrev pub Ends : Schema → ℕ → ℕ → Type 0
Ends schema zero table = ⊥
Ends schema (suc n) table = (relation : Relation) → In relation schema.relations → relation.parent.0 ≡ table → is_arrow schema relation ≡ true → Ends schema n relation.child.0

after : (schema : Schema) (relation : Relation) → In relation schema.relations → is_arrow schema relation ≡ true → (x y : ℕ) → Chain schema x y → relation.parent.0 ≡ y → Chain schema x relation.child.0
after schema relation is_in arrow x y (one first among is) same = more first among is (subst (λ z. Chain schema z relation.child.0) same (one relation is_in arrow))
after schema relation is_in arrow x y (more first among is rest) same = more first among is (after schema relation is_in arrow first.child.0 y rest same)

module _ (schema : Schema) (none : NoCycle schema) (children : (relation : Relation) → In relation schema.relations → relation.child.0 < length schema.tables) where
  ends : (n : ℕ) (seen : List ℕ) (table : ℕ) → Distinct seen → ((x : ℕ) → In x seen → x < length schema.tables) → ((x : ℕ) → In x seen → Chain schema x table) → table < length schema.tables → length seen + n ≡ length schema.tables → Ends schema n table
  unfolding In
  ends zero seen table distinct below reach within count =
      let most : suc (length seen) ≤ length schema.tables = pigeons (length schema.tables) (table ∷ seen) ((λ is_in. none table (reach table is_in)), distinct) all in
      absurd (omega arith)
    where
      all : (x : ℕ) → In x (table ∷ seen) → x < length schema.tables
      all x (inl same) = subst (λ y. y < length schema.tables) (sym same) within
      all x (inr is_in) = below x is_in
  ends (suc n) seen table distinct below reach within count = λ relation is_in parent arrow.
      ends n (table ∷ seen) relation.child.0 ((λ among. none table (reach table among)), distinct) all (on relation is_in parent arrow) (children relation is_in) (omega arith)
    where
      all : (x : ℕ) → In x (table ∷ seen) → x < length schema.tables
      all x (inl same) = subst (λ y. y < length schema.tables) (sym same) within
      all x (inr is_in) = below x is_in

      on : (relation : Relation) → In relation schema.relations → relation.parent.0 ≡ table → is_arrow schema relation ≡ true → (x : ℕ) → In x (table ∷ seen) → Chain schema x relation.child.0
      on relation is_in parent arrow x (inl same) = subst (λ y. Chain schema y relation.child.0) (parent ∙ sym same) (one relation is_in arrow)
      on relation is_in parent arrow x (inr among) = after schema relation is_in arrow x table (reach x among) parent

  pub arrows_end : (table : ℕ) → table < length schema.tables → Ends schema (length schema.tables) table
  unfolding In
  arrows_end table within = ends (length schema.tables) [] table tt (λ x none. absurd none) (λ x none. absurd none) within (omega arith)
