-- The text of a failed connector, piece by piece.
use Rattle.std.specs.Prelude.{ℕ, List, [], ◌++◌, Option, Some, None, codes, decimal}

abbrev pub index_text : Option ℕ → List ℕ
index_text None = []
index_text (Some index) = codes "\"index\":" ++ (decimal index ++ codes ",")
