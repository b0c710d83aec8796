-- What a call says of the sink, and of the status that it ends with.
use Rattle.std.specs.Prelude.{◌≡◌, ◌≢◌, ℕ, ◌⊎◌, List, [], Ok}
use Rattle.console_spec.specs.RunText.{text_of}
use Rattle.outside.specs.SinkRules.{Output, Adds, AddsPart}
use Rattle.loader.specs.declared.refusals.Stop.{Stop}
use Rattle.loader.specs.declared.refusals.Stop.TheVariants.{Refused, Store, Memory}
use Rattle.cart_data.specs.declared.cart.Cart.{Cart}
use Rattle.cart_checker.specs.Verdicts.{RightVerdict}
use Rattle.cart_checker.specs.declared.verdict.Verdict.{Verdict}
use Rattle.case_search.specs.ProvedLists.{IsNoLess, Shows}
use Rattle.case_search.specs.declared.proving.ProveAnswer.{ProveAnswer}
use Rattle.toml.specs.Data.{Members}
use Rattle.loader.specs.Readings.{table_of}
use Rattle.channel_f.specs.Answers.{Answer, Due, Plain, Judged, Proved, Reading, text_answer, refusal_answer, missing_answer}
use Rattle.channel_f.specs.declared.status.Status.{Status}
use Rattle.channel_f.specs.declared.status.Status.TheVariants as status

-- What a call that writes lines and ends with a status says: the sink, old and new, beside the status and the lines that are due.
pub record Reports (old new : Output) (said due : Status) (lines : List (List ℕ)) : Type 0 where
  -- the status is the one that is due, but that of the sink where the sink failed
  pub which : (said ≡ due) ⊎ (said ≡ status.Sink)
  -- the sink was given all the lines and nothing else, and its count of faults stays
  pub whole : said ≢ status.Sink → Adds old new (text_of lines)
  -- where the sink failed, its count rose, and it was given a first part of the lines
  pub part : said ≡ status.Sink → AddsPart old new (text_of lines)

-- What a call says that answers a command, where memory may be wanting.
pub record Answers (old new : Output) (said : Status) (due : Answer) : Type 0 where
  -- the status is the one that is due, but that of the sink where the sink failed, and that of memory where memory was wanting
  pub which : (said ≡ due.status) ⊎ (said ≡ status.Sink) ⊎ (said ≡ status.Memory)
  -- the sink was given the lines that are due, all of them and nothing else, and its count of faults stays
  pub whole : said ≢ status.Sink → said ≢ status.Memory → Adds old new (text_of due.lines)
  -- where the sink failed, its count rose, and it was given a first part of those lines
  pub part : said ≡ status.Sink → AddsPart old new (text_of due.lines)
  -- where memory was wanting, nothing was written, and the count stays
  pub nothing : said ≡ status.Memory → Adds old new []

-- the lines and the status are those of the right verdict, which has what shows it
pub record Judges (old new : Output) (said : Status) (cart : Cart) (by : Verdict → Answer) : Type 0 where
  pub right : RightVerdict cart
  pub reports : Reports old new said (by right.verdict).status (by right.verdict).lines

-- the lines and the status are those of an answer which shows what it says, and says no less than the right verdict
pub record Proves (old new : Output) (said : Status) (cart : Cart) (by : ProveAnswer → Answer) : Type 0 where
  pub answer : ProveAnswer
  pub shows : Shows cart.chips answer
  pub no_less : IsNoLess cart answer
  pub reports : Reports old new said (by answer).status (by answer).lines

-- a document was written that reads as a table
pub record Documents (old new : Output) (said : Status) (table : Members) : Type 0 where
  pub text : List ℕ
  pub reads : table_of text ≡ Ok table
  pub reports : Reports old new said (text_answer text).status (text_answer text).lines

-- memory was wanting, and nothing was written
pub record Wants (old new : Output) (said : Status) : Type 0 where
  pub status : said ≡ status.Memory
  pub nothing : Adds old new []

-- what a call says that answers what is due
abbrev pub AnswersDue : Output → Output → Status → Due → Type 0
AnswersDue old new said (Plain answer) = Answers old new said answer
AnswersDue old new said (Judged cart by) = Wants old new said ⊎ Judges old new said cart by
AnswersDue old new said (Proved cart by) = Wants old new said ⊎ Proves old new said cart by
AnswersDue old new said (Reading table) = Wants old new said ⊎ Documents old new said table

-- what a call says that files stopped
abbrev pub Stops : Output → Output → Status → Stop → Type 0
Stops old new said (Refused refusal) =
    Reports old new said (refusal_answer refusal).status (refusal_answer refusal).lines
Stops old new said (Store purpose) = Reports old new said (missing_answer purpose).status (missing_answer purpose).lines
Stops old new said Memory = Wants old new said
