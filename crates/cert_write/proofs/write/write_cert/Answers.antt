use Rattle.cert_write.proofs.Versions.{marks_of_two}
use Rattle.cert_write.proofs.write.write_cert.Goals as goal

pub write_version-requires : goal.write_version-requires
write_version-requires g c = marks_of_two _
