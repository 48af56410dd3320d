pub mod RecoveryLaws
