-- Fields that lead to models, numbered one after another.
use Rattle.std.proofs.Common.{◌≡◌, ℕ, ◌+◌, List, [], ◌∷◌, ◌++◌, map, length, sym, ap, ◌∙◌}
use Rattle.std.specs.List.{enumerate_from}
use Rattle.std.proofs.Math.ListN.{length-append}
use Rattle.std.proofs.lemmas.List.{append-nil, append_assoc}
use Rattle.psl_rules.specs.Relations.{End, Standing, end_at}

-- these, numbered from this number on
abbrev pub numbered : ℕ → List Standing → List End
numbered number all = map end_at (enumerate_from number all)

-- behind those that there are
abbrev pub behind : List End → List Standing → List End
behind ends all = ends ++ numbered (length ends) all

pub one_more : (ends : List End) (one : Standing) (rest : List Standing) → behind (ends ++ end_at (length ends, one) ∷ []) rest ≡ behind ends (one ∷ rest)
one_more ends one rest =
    ap (λ n. (ends ++ end_at (length ends, one) ∷ []) ++ numbered n rest) (length-append ends (end_at (length ends, one) ∷ []))
    ∙ append_assoc ends (end_at (length ends, one) ∷ []) (numbered (length ends + 1) rest)

pub some_more : (ends : List End) (some rest : List Standing) → behind (behind ends some) rest ≡ behind ends (some ++ rest)
some_more ends [] rest = ap (λ all. behind all rest) (append-nil ends)
some_more ends (one ∷ some) rest =
    let next = ends ++ end_at (length ends, one) ∷ [] in
    ap (λ all. behind all rest) (sym (one_more ends one some)) ∙ some_more next some rest ∙ one_more ends one (some ++ rest)
