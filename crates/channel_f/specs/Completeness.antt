-- The same call, by the files that the store tells: when each status comes, and how many files are asked for.
use Rattle.std.specs.Prelude.{◌≡◌, ◌≢◌, ℕ, ◌<◌, ◌⊎◌, List, [], ◌∷◌, Option, Some, None, Ok}
use Rattle.toml.specs.Data.{Members}
use Rattle.console_spec.specs.RunText.{text_of}
use Rattle.outside.specs.Counts.{Rose}
use Rattle.outside.specs.SinkRules.{Adds}
use Rattle.outside.specs.StoreRules.{NamedBytes}
use Rattle.loader.specs.declared.refusals.Refusal.{Refusal}
use Rattle.chip_face.specs.declared.specification.ChipSpec.{ChipSpec}
use Rattle.loader.specs.Readings.{table_of}
use Rattle.loader.specs.Work.{Ask, End, Gives, Refuses, Lacks, Work}
use Rattle.loader.specs.Works.{AsksFew, HasFiles, Misses, order_of, file_of}
use Rattle.cart_data.specs.declared.cart.Cart.{Cart}
use Rattle.cart_checker.specs.Verdicts.{RightVerdict}
use Rattle.cart_checker.specs.declared.verdict.Verdict.{Verdict}
use Rattle.case_search.specs.ProvedLists.{IsNoLess, Shows}
use Rattle.case_search.specs.declared.proving.ProveAnswer.{ProveAnswer}
use Rattle.channel_f.specs.Answers.{Answer, Due, Plain, Judged, Proved, Reading, refusal, refusal_answer, text_answer}
use Rattle.channel_f.specs.Commands.{Around}
use Rattle.channel_f.specs.declared.status.Status.{Status}
use Rattle.channel_f.specs.declared.status.Status.TheVariants as status

-- what is due where no file is missing
abbrev pub due_at : End Due → Option Due
due_at (Gives due) = Some due
due_at (Refuses refusal) = Some (Plain (refusal_answer refusal))
due_at Lacks = None

-- the status is the one that is due, with all of its lines
pub record Answered (old new : Around) (said : Status) (answer : Answer) : Type 0 where
  pub status : said ≡ answer.status
  pub lines : Adds old.output new.output (text_of answer.lines)

-- the same, where it is due by the right verdict on a cartridge
pub record AnsweredBy (old new : Around) (said : Status) (cart : Cart) (by : Verdict → Answer) : Type 0 where
  pub right : RightVerdict cart
  pub answered : Answered old new said (by right.verdict)

-- the same, where it is due by an answer of a search which shows what it says
pub record AnsweredAs (old new : Around) (said : Status) (cart : Cart) (by : ProveAnswer → Answer) : Type 0 where
  pub answer : ProveAnswer
  pub shows : Shows cart.chips answer
  pub no_less : IsNoLess cart answer
  pub answered : Answered old new said (by answer)

-- the same, where any document that reads as a table is due
pub record AnsweredWith (old new : Around) (said : Status) (table : Members) : Type 0 where
  pub text : List ℕ
  pub reads : table_of text ≡ Ok table
  pub answered : Answered old new said (text_answer text)

abbrev pub AnsweredDue : Around → Around → Status → Due → Type 0
AnsweredDue old new said (Plain answer) = Answered old new said answer
AnsweredDue old new said (Judged cart by) = AnsweredBy old new said cart by
AnsweredDue old new said (Proved cart by) = AnsweredAs old new said cart by
AnsweredDue old new said (Reading table) = AnsweredWith old new said table

-- the line of a file that is refused was written, and that file or one that is asked for before it is missing
pub record RefusesBehind (old new : Around) (files : List NamedBytes) (asks : List Ask) : Type 0 where
  pub refusal : Refusal
  pub lines : Adds old.output new.output (text_of (refusal_answer refusal).lines)
  pub misses : Misses files asks (order_of (file_of refusal))

-- the line of a rack that has no place for some chips was written
pub record RefusesRack (old new : Around) : Type 0 where
  pub chips : List ChipSpec
  pub line : List ℕ
  pub due : refusal chips old.rack ≡ Some line
  pub lines : Adds old.output new.output (text_of (line ∷ []))

pub record IsComplete (old new : Around) (said : Status) (work : Work Due) : Type 0 where
  -- Where the store tells its files and has all that are asked for, and neither count rose, the call answers what is due, or memory was
  -- wanting.
  pub answers : (files : List NamedBytes) (due : Due) → old.input.files ≡ Some files →
      due_at (work files).end ≡ Some due →
      (Rose old.input.faults new.input.faults → ⊥) → (Rose old.output.faults new.output.faults → ⊥) →
      AnsweredDue old new said due ⊎ (said ≡ status.Memory)
  -- where a file is missing, the store failed, or memory was wanting
  pub lacks : (files : List NamedBytes) → new.input.files ≡ Some files → due_at (work files).end ≡ None →
      (said ≡ status.Store) ⊎ (said ≡ status.Sink) ⊎ (said ≡ status.Memory)
  -- where a file is missing and the store made something up for it, no file before it is refused
  pub refused : (files : List NamedBytes) → old.input.files ≡ Some files → due_at (work files).end ≡ None →
      said ≡ status.Input →
      RefusesBehind old new files (work files).asks ⊎ RefusesRack old new
  -- No more files are asked for than there are to be had, with the first that is missing or refused, and the limits with which they are
  -- asked for add up to those of these files.
  pub bound : (files : List NamedBytes) → old.input.files ≡ Some files →
      HasFiles (work files).end ⊎ (new.input.files ≡ Some files) → AsksFew old.input new.input (work files).asks
  -- a failing store and a failing sink are told
  pub store : said ≡ status.Store → Rose old.input.faults new.input.faults
  pub store_told : old.input.faults < new.input.faults → (said ≡ status.Store) ⊎ (said ≡ status.Sink)
  pub sink : said ≡ status.Sink → Rose old.output.faults new.output.faults
  pub sink_told : old.output.faults < new.output.faults → said ≡ status.Sink

-- ---- where nothing outside the program fails

-- The same call over a store that has these files, was asked for no others so far, and never fails, and over a sink that never fails.
pub record IsSurelyComplete (old new : Around) (said : Status) (files : List NamedBytes) (work : Work Due) : Type 0 where
  -- what is due comes, or memory was wanting
  pub answers : (due : Due) → due_at (work files).end ≡ Some due → AnsweredDue old new said due ⊎ (said ≡ status.Memory)
  -- where a file is missing the store made an empty one up for it, and no file before it is refused
  pub refused : due_at (work files).end ≡ None → said ≡ status.Input →
      RefusesBehind old new files (work files).asks ⊎ RefusesRack old new
  -- where none is missing, no more files are asked for than there are to be had, with the first that is refused, nor with other limits in
  -- sum
  pub bound : HasFiles (work files).end → AsksFew old.input new.input (work files).asks
  pub store : said ≢ status.Store
  pub sink : said ≢ status.Sink
