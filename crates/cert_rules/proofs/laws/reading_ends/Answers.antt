use Rattle.cert_rules.proofs.Room.{lines_left_fall, room_falls}
use Rattle.cert_rules.proofs.laws.reading_ends.Goals as goal

pub returns-clause-lines : goal.returns-clause-lines
returns-clause-lines c = lines_left_fall

pub returns-clause-room : goal.returns-clause-room
returns-clause-room c = room_falls
