-- What is made by the numbers of rows.
use Rattle.std.specs.Prelude.{ℕ, ◌+◌, ◌/◌, ◌%◌, List, ◌++◌, codes, decimal}
use Rattle.qe_base.specs.declared.query.ColumnTest.{ColumnTest}
use Rattle.qe_base.specs.declared.query.Like.TheVariants as like
use Rattle.qe_base.specs.declared.query.Test.TheVariants as test

-- the second text of a row
abbrev pub text_of : ℕ → List ℕ
text_of number = decimal (10000000 + number / 100) ++ (codes "." ++ decimal (100 + number % 100))

-- the line of its create; the first text is the second one of the row of a third of its number
abbrev pub create_line : ℕ → List ℕ
create_line number =
    codes "{\"modelName\":\"Item\",\"action\":\"create\",\"query\":{\"arguments\":{\"data\":{\"id\":"
    ++ (decimal number ++ (codes ",\"a\":\"" ++ (text_of (number / 3) ++ (codes "\",\"b\":\"" ++ (text_of number ++ codes "\"}}}}")))))

-- the second text contains what it does where the number ends in 07
abbrev pub seven_in_a_hundred : ColumnTest
seven_in_a_hundred = record { column = 2; test = test.Like like.Inside (codes ".107") }
