-- The codes of a file's blocks, as they are built block by block.
use Rattle.std.proofs.Common.{◌≡◌, ℕ, ◌+◌, ◌<◌, inl, inr, List, [], ◌∷◌, ◌++◌, length, get_or, sym}
use Rattle.std.proofs.Common.{ap, ◌∙◌, subst, arith, below_more, All, Option, Some}
use Rattle.std.proofs.lemmas.List.Elements.{All-push, Contains-append_left}
use Rattle.std.proofs.lemmas.List.Quantifiers.{Any-push}
use Rattle.sparse_rows.specs.Matrix.{Matrix, IsCode}
use Rattle.packet_file.specs.Header.{HeaderFields, source_counts, symbol_count}
use Rattle.object_file.specs.BuiltCodes.{AreCodes, AreMatrices, HasSize, RefusesCode, RefusesCodes}
use Rattle.object_file.specs.Codes.{HasMatrix, count_at, header_matrix}
use Rattle.tool_base.specs.declared.causes.Refusal.{Refusal}

-- the matrices are those of the blocks before block b
pub record AreBuilt (h : HeaderFields) (draws : Option ℕ) (b : ℕ) (matrices : List Matrix) : Type 0
  where
    pub built : AreMatrices h draws matrices
    pub sized : All (λ m. m.n ≡ symbol_count h m.k) matrices
    pub shaped : All IsCode matrices
    pub each : (i : ℕ) → i < b → HasSize matrices (count_at h i)

module _ (h : HeaderFields) (draws : Option ℕ) where
  -- no block, no matrix
  pub built_none : AreBuilt h draws 0 []
  built_none = record {
    built = λ k d lt. absurd (omega arith);
    sized = λ k d lt. absurd (omega arith);
    shaped = λ k d lt. absurd (omega arith);
    each = λ i lt. absurd (omega arith);
  }

  -- one of the matrices has the size of the next block
  pub built_same : (b : ℕ) (matrices : List Matrix) → AreBuilt h draws b matrices
      → HasSize matrices (count_at h b) → AreBuilt h draws (b + 1) matrices
  built_same b matrices before here = record {
    built = before.built;
    sized = before.sized;
    shaped = before.shaped;
    each = below_more (λ i. HasSize matrices (count_at h i)) b before.each here;
  }

  -- a matrix that is there stays there
  kept_size : (matrices : List Matrix) (m : Matrix) (k : ℕ) → HasSize matrices k
      → HasSize (matrices ++ m ∷ []) k
  kept_size matrices m k has =
      let still = Contains-append_left matrices (m ∷ []) has.1 (has.0, has.2, has.3) in
      (still.0, has.1, still.1, still.2, has.4)

  -- the matrix of the next block
  pub built_next : (b : ℕ) (matrices : List Matrix) (m : Matrix) → AreBuilt h draws b matrices
      → header_matrix h draws (count_at h b) ≡ Some m → m.k ≡ count_at h b
      → m.n ≡ symbol_count h (count_at h b) → IsCode m
      → AreBuilt h draws (b + 1) (matrices ++ m ∷ [])
  built_next b matrices m before code size symbols shape = record {
    built = All-push (λ n. header_matrix h draws n.k ≡ Some n) matrices m before.built
        (subst (λ k. header_matrix h draws k ≡ Some m) (sym size) code);
    sized = All-push (λ n. n.n ≡ symbol_count h n.k) matrices m before.sized (symbols
        ∙ ap (symbol_count h) (sym size));
    shaped = All-push IsCode matrices m before.shaped shape;
    each = below_more (λ i. HasSize (matrices ++ m ∷ []) (count_at h i)) b
        (λ i lt. kept_size matrices m (count_at h i) (before.each i lt))
        (Any-push (λ n. n.k ≡ count_at h b) matrices m size);
  }

  -- all blocks
  pub built_all : (b : ℕ) (matrices : List Matrix) → length (source_counts h) ≡ b
      → AreBuilt h draws b matrices → AreCodes h draws matrices
  built_all b matrices count all =
      record {
        built = all.built;
        sized = all.sized;
        shaped = all.shaped;
        each = λ i lt. all.each i (omega (arith, count));
      }

  -- a block with one of the matrices has a matrix
  pub has_matrix : (matrices : List Matrix) (b : ℕ) → AreMatrices h draws matrices
      → HasSize matrices (count_at h b) → HasMatrix h draws b
  has_matrix matrices b built has =
      let m : Matrix = get_or matrices has.0 has.1 in
      let size : m.k ≡ count_at h b = ap (λ (n : Matrix). n.k) has.3 ∙ has.4 in
      (m, subst (λ k. header_matrix h draws k ≡ Some m) size (built has.0 has.1 has.2))

  -- the next block has no code, and all before have theirs
  pub refuses_next : (b : ℕ) (matrices : List Matrix) (refusal : Refusal)
      → b < length (source_counts h) → AreBuilt h draws b matrices → RefusesCode h draws b refusal
      → RefusesCodes h draws refusal
  refuses_next b matrices refusal lt before (inl memory) = subst (RefusesCodes h draws) (sym memory)
      tt
  refuses_next b matrices refusal lt before (inr over) =
      subst (RefusesCodes h draws) (sym over.0)
      (record {
        block = lt;
        over = over.1;
        before = λ i less. has_matrix matrices i before.built
            (before.each i less);
      })
