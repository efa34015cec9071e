-- Laws of what specs/Output.antt defines. The head of that file lists the main results.
use Rattle.std.specs.Prelude.{◌≡◌, refl}
use Rattle.frame.specs.Output.{answer_length, table_length}

table_length_is : table_length ≡ 4096
table_length_is = refl

answer-length_is : answer_length ≡ 8277
answer-length_is = refl
