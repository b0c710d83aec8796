-- The exit statuses as numbers.
use Rattle.std.specs.Prelude.{◌≡◌, ℕ}
use Rattle.channel_f.specs.declared.status.Status.{Status}
use Rattle.channel_f.specs.declared.status.Status.TheVariants.{Done, Words, Input, Fault, Store, Sink, Memory, NoVerdict, Reserved}
use Rattle.channel_f.specs.declared.status.Status.TheVariants.{NoWords}

abbrev pub exit_code : Status → ℕ
exit_code Done = 0
exit_code Words = 1
exit_code Input = 2
exit_code Fault = 3
exit_code Store = 4
exit_code Sink = 5
exit_code Memory = 6
exit_code NoVerdict = 7
exit_code Reserved = 8
exit_code NoWords = 10

-- The number is that of a status of which this is said. No two statuses have one number.
pub record HasStatus (number : ℕ) (Says : Status → Type 0) : Type 0 where
  pub status : Status
  pub is : number ≡ exit_code status
  pub says : Says status
