mod Revoked
