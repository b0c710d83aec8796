-- Each arm leads to the state after the write, and so to what is shown after one write more.
use Rattle.std.proofs.Common.{rules}
use Rattle.video.specs.ScreenState.{after_write}
use Rattle.video.proofs.ShownLaws.{goes_on}
use Rattle.video.proofs.video_memory.Screen.port.Goals as goal

pub returns-in-0-clause-next : goal.returns-in-0-clause-next
unfolding after_write
returns-in-0-clause-next c = search rules

pub returns-in-0-clause-display : goal.returns-in-0-clause-display
returns-in-0-clause-display c = λ phi ws before. goes_on c.args.self.now _
    (record { phi = phi; port = c.args.port; byte = c.args.byte }) ws (returns-in-0-clause-next c) before

pub returns-in-1-clause-next : goal.returns-in-1-clause-next
unfolding after_write
returns-in-1-clause-next c = search rules

pub returns-in-1-clause-display : goal.returns-in-1-clause-display
returns-in-1-clause-display c = λ phi ws before. goes_on c.args.self.now _
    (record { phi = phi; port = c.args.port; byte = c.args.byte }) ws (returns-in-1-clause-next c) before

pub returns-in-4-clause-next : goal.returns-in-4-clause-next
unfolding after_write
returns-in-4-clause-next c = search rules

pub returns-in-4-clause-display : goal.returns-in-4-clause-display
returns-in-4-clause-display c = λ phi ws before. goes_on c.args.self.now _
    (record { phi = phi; port = c.args.port; byte = c.args.byte }) ws (returns-in-4-clause-next c) before

pub returns-in-5-clause-next : goal.returns-in-5-clause-next
unfolding after_write
returns-in-5-clause-next c = search rules

pub returns-in-5-clause-display : goal.returns-in-5-clause-display
returns-in-5-clause-display c = λ phi ws before. goes_on c.args.self.now _
    (record { phi = phi; port = c.args.port; byte = c.args.byte }) ws (returns-in-5-clause-next c) before

pub returns-in_default-clause-next : goal.returns-in_default-clause-next
unfolding after_write
returns-in_default-clause-next c = search rules

pub returns-in_default-clause-display : goal.returns-in_default-clause-display
returns-in_default-clause-display c = λ phi ws before. goes_on c.args.self.now _
    (record { phi = phi; port = c.args.port; byte = c.args.byte }) ws (returns-in_default-clause-next c) before
