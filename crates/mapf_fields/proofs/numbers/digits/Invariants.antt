use Rattle.std.proofs.Common.{◌≡◌, ◌<◌, ◌^◌, take}
use Rattle.std.specs.Str.Parse.{digits_value}
use Rattle.mapf_fields.proofs.Digits.{AreDigits}
use Rattle.mapf_fields.proofs.numbers.digits.Given as goal

abbrev pub invariant-loop-i : goal.invariant-loop-i
invariant-loop-i l = record {
  all : AreDigits l.bytes l.i;
  value : l.value ≡ digits_value 10 (take l.i l.bytes);
  fits : l.value < 2 ^ 64;
}
