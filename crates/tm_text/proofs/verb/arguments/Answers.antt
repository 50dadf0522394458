use Rattle.tm_text.proofs.verb.arguments.Goals as goal

pub returns-in-Session : goal.returns-in-Session
returns-in-Session c = rw c.in-Session.is c.session_line.ensures

pub returns-in-Item : goal.returns-in-Item
returns-in-Item c = rw c.in-Item.is c.item_line.ensures

pub returns-in-Tmutil : goal.returns-in-Tmutil
returns-in-Tmutil c = rw c.in-Tmutil.is c.tmutil_line.ensures

pub returns-in-FsEvents : goal.returns-in-FsEvents
returns-in-FsEvents c = rw c.in-FsEvents.is c.fsevents_line.ensures

pub returns-in-Store : goal.returns-in-Store
returns-in-Store c = rw c.in-Store.is c.store_line.ensures
