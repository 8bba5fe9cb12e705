-- The one whose word is too long for the search.
use Rattle.lines.proofs.words.put_event.Goals as goal

pub returns-in-EraseNonDisplay : goal.returns-in-EraseNonDisplay
returns-in-EraseNonDisplay c = rw c.in-EraseNonDisplay.is c.put_for-in-EraseNonDisplay.ensures
